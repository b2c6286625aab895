use Rattle.std.proofs.Common.{length}
use Rattle.pt_http_request.proofs.headers.+value_of.Given as goal

abbrev pub decreases-value_of : goal.decreases-value_of
decreases-value_of l = length l.headers.now
