use Rattle.std.proofs.Common.{◌≡◌, ℕ, ◌<◌, ◌&&◌, false, get_or, drop}
use Rattle.pt_rights_files.specs.Appeals.{appeals_against}
use Rattle.pt_rights_files.specs.Kinds.{is_overturn, decides_appeal}
use Rattle.pt_rights_files.specs.Positions.{some_position}
use Rattle.pt_rights_files.proofs.Lifted.{first_if_any}
use Rattle.pt_rights_files.proofs.suspensions.lifted_positions.Given as goal

abbrev pub invariant-loop-position : goal.invariant-loop-position
invariant-loop-position l = record {
  lifts : l.lifts ≡ first_if_any (λ e. decides_appeal e.entry) (λ e. is_overturn e.entry) (drop l.position l.entries);
  lifted : (position : ℕ) → position < 200 → get_or l.lifted position false
      ≡ some_position
      (λ e later. appeals_against position e.entry && first_if_any (λ d. decides_appeal d.entry) (λ d. is_overturn d.entry) later)
      (drop l.position l.entries);
}
