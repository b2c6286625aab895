use Rattle.std.proofs.Common.{inl, inr}
use Rattle.pt_rights_conditions.proofs.trips.holds_for.Goals as goal

pub returns-else-is_farther : goal.returns-else-is_farther
returns-else-is_farther c =
    rw c.in-Farther.is (
      λ is. inr (c.is_farther-else-is_farther.ensures.0 is),
      λ holds.
          elim holds [
            | inl near ↦ let is = c.is_farther.ensures.1 near in let not = c.if-is_farther.false in absurd (cc)
            | inr far ↦ c.is_farther-else-is_farther.ensures.1 far
          ],
    )
