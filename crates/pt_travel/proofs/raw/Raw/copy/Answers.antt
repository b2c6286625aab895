use Rattle.std.proofs.Common.{sym, subst, ◌∙◌}
use Rattle.pt_travel.specs.Places.{list_of}
use Rattle.pt_travel.specs.Table.{IsTable, NamesOnly}
use Rattle.pt_travel.proofs.raw.Raw.copy.Goals as goal

pub invariant_of-result : goal.invariant_of-result
invariant_of-result c =
    subst (λ rows. IsTable rows × NamesOnly (list_of c.self.inside.places) rows)
    (sym (c.in_ok-from_slice.ensures.items ∙ c.deref.ensures.value)) c.self.invariant
