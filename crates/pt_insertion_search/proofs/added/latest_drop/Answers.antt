-- A ride ends by the trip's latest minute and within its limit.
use Rattle.std.proofs.Common.{arith}
use Rattle.pt_insertion_search.proofs.added.latest_drop.Goals as goal

pub returns : goal.returns
returns c minutes pickup drop by ride = omega (arith, by, ride.in_time, ride.within_limit)
