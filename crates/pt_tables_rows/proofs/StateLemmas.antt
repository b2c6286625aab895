-- States of a connection in turn.
use Rattle.std.proofs.Common.{◌∙◌, inl, refl, true, arith}
use Rattle.sqlite.specs.State.{State, KeepsCommit, Shows, Survives}

pub keeps_then : (a b c : State) → KeepsCommit a b → KeepsCommit b c → KeepsCommit a c
keeps_then a b c p q = record {
  was_open = λ o. p.was_open (q.was_open o);
  committed = λ o. q.committed o ∙ p.committed (q.was_open o);
}

pub keeps_self : (a : State) → KeepsCommit a a
keeps_self a = record { was_open = λ o. o; committed = λ o. refl }

pub keeps_shown : (a b : State) → Shows a b b.now a.committed true → KeepsCommit a b
keeps_shown a b h = record { was_open = λ o. h.was_open; committed = λ o. h.committed_is }

pub survives_self : (a : State) → Survives a a (λ _. ⊥)
survives_self a = record {
  clean = omega arith;
  shield = λ shielded. shielded;
  counts = omega arith;
  limit = refl;
  closes = λ clean is_open. inl is_open;
  crash = λ clean db left. inl left;
}
