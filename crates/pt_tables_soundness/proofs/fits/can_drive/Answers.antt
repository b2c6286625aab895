use Rattle.std.proofs.Common.{ℕ, Option, subst}
use Rattle.pt_feasible.specs.Route.{stops_of}
use Rattle.pt_feasible.specs.ServiceTimes.{TimesFit}
use Rattle.pt_travel.specs.Times.{time_in}
use Rattle.pt_tables_soundness.proofs.FitLemmas.{minutes_one}
use Rattle.pt_tables_soundness.proofs.fits.can_drive.Goals as goal

pub returns-in-None : goal.returns-in-None
returns-in-None c = (
  λ no. absurd (cc),
  λ (minutes, times, b, fits).
      absurd (c.in-None.ensures.none b (subst (λ (m : ℕ → ℕ → Option ℕ). TimesFit m c.args.version.now (stops_of c.args.route.now)
      b) (minutes_one c.args.table.now.rows minutes (time_in c.times.result.now) times c.times.ensures.least) fits)),
)
