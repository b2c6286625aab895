use Rattle.std.proofs.Common.{subst}
use Rattle.pt_travel.specs.Times.{time_in}
use Rattle.pt_desk_rules.specs.Booking.{AreTimes}
use Rattle.pt_desk_reads.specs.Refusal.{Refusal}
use Rattle.pt_desk_reads.proofs.explaining.Facts.times.Goals as goal

pub returns : goal.returns
returns c = record {
  least = subst (λ (r : Refusal). AreTimes r.rows (time_in c.times.result.now)) c.self.view_is c.times.ensures.least;
}
