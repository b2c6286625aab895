use Rattle.std.proofs.Common.{take}
use Rattle.pt_http_reply.proofs.TripLemmas.{AreWritten}
use Rattle.pt_http_reply.proofs.trips.write_trips.Given as goal

abbrev pub invariant-loop-index : goal.invariant-loop-index
invariant-loop-index l = AreWritten l.fn.out.items l.out.items (take l.index l.trips)
