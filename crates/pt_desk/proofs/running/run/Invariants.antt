use Rattle.std.proofs.Common.{◌≡◌, ◌+◌, ◌-◌, ◌<◌, ◌≤◌, ◌++◌, List, Result, drop, take, length, vec_len, vec_capacity}
use Rattle.pt_desk_rules.specs.State.{State}
use Rattle.pt_desk_rules.specs.Sound.{IsSound}
use Rattle.pt_desk.specs.Crash.{FindsAfter, Lasts}
use Rattle.pt_desk.specs.Run.{AreOnlyTold, GoesOn, TellOfFailure}
use Rattle.pt_desk_store.specs.Store.{FindsContent, FitsSound, IsSettled}
use Rattle.pt_desk_store.specs.declared.keeper.StoreFault.{StoreFault}
use Rattle.pt_desk_requests.specs.declared.request.Answer.{Answer}
use Rattle.pt_desk.proofs.RunLemmas.{IsSame}
use Rattle.pt_desk.proofs.running.run.Given as goal

-- the remaining calls complete the run, whatever they are
abbrev pub invariant-loop-call : goal.invariant-loop-call
invariant-loop-call g l =
    let store = g.K.Keeper.store in
    record {
      room : vec_len l.replies + (length l.calls - l.call-index) ≤ vec_capacity l.replies;
      clean : (store l.fn.keeper).doubt ≤ (store l.keeper).doubt;
      serves : (store l.fn.keeper).shut ≤ (store l.keeper).shut;
      grows : (store l.fn.keeper).failures ≤ (store l.keeper).failures;
      lasts : Lasts (store l.fn.keeper) (store l.keeper);
      finds : (store l.keeper).doubt ≡ 0 → (store l.fn.keeper).failures ≡ 0 → FindsContent (store l.fn.keeper)
          → FindsAfter (store l.fn.keeper).content (take l.call-index l.calls) l.replies.items (store l.keeper);
      settled : IsSettled (store l.fn.keeper) → IsSettled (store l.keeper);
      sound : (store l.keeper).doubt ≡ 0 → (store l.keeper).failures ≡ 0 → IsSound (store l.fn.keeper).content → IsSound (store l.keeper).content;
      fits : FitsSound (store l.fn.keeper) (store l.keeper);
      only_told : (rest : List (Result Answer StoreFault)) → AreOnlyTold l.calls (l.replies.items ++ rest) → IsSame (store l.fn.keeper) (store l.keeper) × AreOnlyTold (drop l.call-index l.calls) rest;
      told : TellOfFailure l.replies.items → 0 < (store l.keeper).failures;
      rest : (store l.keeper).doubt ≡ 0 → (rest : List (Result Answer StoreFault)) (new : State) → GoesOn (store l.keeper).failures (store l.keeper).content (drop l.call-index l.calls) rest new
          → GoesOn (store l.fn.keeper).failures (store l.fn.keeper).content l.calls (l.replies.items ++ rest) new;
    }
