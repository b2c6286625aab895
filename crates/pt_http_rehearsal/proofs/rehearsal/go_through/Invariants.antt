use Rattle.std.proofs.Common.{◌≡◌, ◌≤◌, ℕ, List}
use Rattle.pt_desk_store.specs.Store.{Store}
use Rattle.pt_http_exchange.specs.Answering.{GoesOn}
use Rattle.pt_http_exchange.specs.Exchange.{desk_of}
use Rattle.pt_http_exchange.specs.Input.{HasInput}
use Rattle.pt_http_rehearsal.proofs.RehearsalLemmas.{StandsAt}
use Rattle.pt_http_rehearsal.proofs.ServedLemmas.{HasServed}
use Rattle.pt_http_rehearsal.proofs.rehearsal.go_through.Given as goal

-- the messages so far were answered in turn
abbrev pub invariant-loop : goal.invariant-loop
invariant-loop g l =
    let store = g.K.Keeper.store in
    record {
      goes : GoesOn (store l.fn.keeper) (store l.keeper);
      stands : (store l.keeper).doubt ≡ 0 → (input : List ℕ)
          → HasInput g.R.Read.remaining l.fn.inbox input
          → StandsAt g.R.Read.remaining input (desk_of (store l.fn.keeper)) (g.W.Write.contents l.fn.out)
          l.inbox (desk_of (store l.keeper)) (g.W.Write.contents l.out) l.counter;
      served : (store l.keeper).doubt ≡ 0
          → HasServed (desk_of (store l.fn.keeper)) (g.W.Write.contents l.fn.out) (desk_of (store l.keeper))
          (g.W.Write.contents l.out) l.counter;
    }
