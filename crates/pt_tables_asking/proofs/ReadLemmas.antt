-- Results and answers, restated for equal values.
use Rattle.std.proofs.Common.{◌≡◌, ℕ, List, Result, Ok, Err, IfOk, subst, sym, ◌∙◌}
use Rattle.sqlite.specs.Effect.{Database}
use Rattle.sqlite.specs.Order.{Row}
use Rattle.pt_tables_asking.specs.Asking.{HasAnswer}

-- a result that is one value is also an equal value
pub ok_same : {X E : Type 0} (r : Result X E) (x y : X) → IfOk r (λ found. found ≡ x) → x ≡ y → IfOk r (λ found. found ≡ y)
ok_same (Ok found) x y is same = is ∙ same
ok_same (Err e) x y is same = tt

-- parameters that were made on the way
pub at_params : (text : List ℕ) (db : Database) (rows : List Row) (given params : Row) → given ≡ params → HasAnswer text params db rows → HasAnswer text given db rows
at_params text db rows given params same has = subst (λ p. HasAnswer text p db rows) (sym same) has
