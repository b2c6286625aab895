use Rattle.std.proofs.Common.{◌≡◌, ◌⊎◌, ◌+◌, ◌^◌, ◌<◌, ◌≤◌, length}
use Rattle.pt_http_exchange.specs.Answering.{GoesOn}
use Rattle.pt_app_serve.proofs.ServingLemmas.{HasServed}
use Rattle.pt_app_serve.specs.Serving.{progress_of}
use Rattle.pt_app_serve.proofs.serving.serve.Given as goal

-- what came of each connection so far
abbrev pub invariant-loop-connection : goal.invariant-loop-connection
invariant-loop-connection g l =
    let store = g.K.Keeper.store in
    let comes = g.A.Accepts.comes in
    let replied = g.A.Accepts.replied in
    let ending = g.A.Accepts.ending in
    record {
      goes : GoesOn (store l.fn.keeper) (store l.keeper);
      fits : (length (comes l.port) ≡ length (comes l.fn.port)) ⊎ (length (comes l.fn.port) < 2 ^ 32);
      few : l.failed + length (comes l.port) ≤ length (comes l.fn.port);
      served : (store l.keeper).doubt ≡ 0
          → HasServed g.A.Stream.Connection.shows g.A.Stream.Connection.fails l.zone (comes l.fn.port)
          (comes l.port) l.failed (progress_of (store l.fn.keeper) (replied l.fn.port) (ending l.fn.port))
          (progress_of (store l.keeper) (replied l.port) (ending l.port));
    }

abbrev pub decreases-loop-connection : goal.decreases-loop-connection
decreases-loop-connection g l = length (g.A.Accepts.comes l.port)
