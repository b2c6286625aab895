-- How the bounds of the times of a timeline rise.
use Rattle.std.specs.Prelude.{◌≡◌, ℕ, ◌+◌, ◌<◌, ◌≤◌, List, length, slice_index, slice_index_or, sum}
use Rattle.pt_feasible.specs.declared.limits.Limits.{Limits}
use Rattle.pt_feasible.specs.declared.sweep.Pass.{Pass}
use Rattle.pt_feasible.specs.declared.sweep.Pass.TheVariants.{Stayed, Raised, Broken}
use Rattle.pt_feasible.specs.Limits.{KeepsAll, AreInWindows}
use Rattle.pt_feasible.specs.ServiceTimes.{IsNeverLater}

-- The bounds never fall, stay within their windows, and stay at or below all times that keep the limits. A pass that
-- raised none changed nothing; one that raised some has a larger sum. If a limit is broken, no times keep the limits.
pub record Raises (limits : List Limits) (old new : List ℕ) (done : Pass) : Type 0 where
  pub count : length new ≡ length old
  pub rises : IsNeverLater old new
  pub below : (b : List ℕ) → IsNeverLater old b → KeepsAll limits b → IsNeverLater new b
  pub in_windows : AreInWindows limits old → AreInWindows limits new
  pub stayed : done ≡ Stayed → new ≡ old
  pub raised : done ≡ Raised → sum old < sum new
  pub broken : done ≡ Broken → (b : List ℕ) → IsNeverLater old b → ¬ KeepsAll limits b

-- the limits of the first `count` visits hold from the old bounds to the new ones
abbrev pub IsWalkedTo : List Limits → List ℕ → List ℕ → ℕ → Type 0
IsWalkedTo limits old new count = (k : ℕ) (d : Limits) → k < count → k < length limits →
    (slice_index old k ≤ slice_index new (slice_index_or limits k d).since.visit
    + (slice_index_or limits k d).since.most)
    × (k + 1 < length limits → slice_index old k + (slice_index_or limits k d).step ≤ slice_index new (k + 1))
