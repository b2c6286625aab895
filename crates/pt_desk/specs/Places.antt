-- The numbers of the desk's places.
use Rattle.std.specs.Prelude.{ℕ, List, Result}
use Rattle.std.specs.Global.{Vec}
use Rattle.std.specs.Result.{result_map_both}

-- the reply's numbers, as a list
abbrev pub numbers_in : {E : Type 0} → Result (Vec ℕ) E → Result (List ℕ) E
numbers_in told = result_map_both (λ ids. ids.items) (λ fault. fault) told
