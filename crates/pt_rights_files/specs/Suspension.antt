-- Suspension of a rider (49 CFR 37.125(h)), by the entries of the case file.
use Rattle.std.specs.Prelude.{ℕ, Bool, ◌&&◌, ◌||◌, not, List}
use Rattle.pt_rights_files.specs.declared.entry.Entered.{Entered}
use Rattle.pt_rights_files.specs.Kinds.{suspends}
use Rattle.pt_rights_files.specs.Appeals.{appeals_against, some_pending, is_overturned}
use Rattle.pt_rights_files.specs.Positions.{some_numbered}

-- the suspension at the position has no effect: an appeal against it is pending, or has overturned it
abbrev pub is_lifted : List Entered → ℕ → Bool
is_lifted file position = some_pending (appeals_against position) file || is_overturned file position

-- some entry suspends the rider on the day, and has effect
abbrev pub is_suspended : List Entered → ℕ → Bool
is_suspended file day =
    some_numbered (λ position entered. suspends day entered.entry && not (is_lifted file position)) 0 file
