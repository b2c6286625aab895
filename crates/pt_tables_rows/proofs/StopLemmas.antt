-- The rows of stops, one after the other.
use Rattle.std.proofs.Common.{◌≡◌, ℕ, ◌+◌, pos, List, [], ◌∷◌, ◌++◌, length, ap, ◌∙◌, arith}
use Rattle.pt_desk_scheduling.specs.declared.planned.PlannedStop.{PlannedStop}
use Rattle.pt_tables_rows.specs.Rows.{stop_row, stop_rows_from}

-- one stop more
pub stop_rows-push : (place vehicle day : ℕ) (stops : List PlannedStop) (stop : PlannedStop)
    → stop_rows_from place vehicle day (stops ++ stop ∷ []) ≡ stop_rows_from place vehicle day stops ++ stop_row vehicle day (pos (place + length stops)) stop ∷ []
stop_rows-push place vehicle day [] stop = ap (λ n. stop_row vehicle day (pos n) stop ∷ []) (omega arith)
stop_rows-push place vehicle day (first ∷ later) stop =
    ap (λ l. stop_row vehicle day (pos place) first ∷ l)
    (stop_rows-push (place + 1) vehicle day later stop ∙ ap (λ n. stop_rows_from (place + 1) vehicle day later ++ stop_row vehicle day (pos n) stop ∷ []) (omega arith))
