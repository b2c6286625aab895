use Rattle.std.proofs.Common.{List, ℕ, sym, subst}
use Rattle.std.specs.List.Sorted.{IsStrictlyIncreasing}
use Rattle.pt_desk_rules.specs.State.{place_key}
use Rattle.pt_desk.proofs.PlaceLemmas.{keys_rise}
use Rattle.pt_desk.proofs.places.place_ids.Goals as goal

pub returns-clause-rising : goal.returns-clause-rising
returns-clause-rising g c =
    subst (λ (ids : List ℕ). IsStrictlyIncreasing ids) (sym c.in_ok-ids_of.ensures.value)
    (keys_rise place_key c.as_slice.result.now c.as_slice.ensures.order)
