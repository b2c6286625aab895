use Rattle.std.proofs.Common.{◌≡◌, ◌≤◌, ◌∷◌, ◌++◌, [], arith, append-nil, append_assoc, refl, subst, sym, ◌∙◌}
use Rattle.std.proofs.lemmas.Grind.{common_steps}
use Rattle.pt_desk.specs.Run.{AreOnlyTold, IsOutcomeOf}
use Rattle.pt_desk.proofs.AnswerLemmas.{tells_by}
use Rattle.pt_desk.proofs.CrashLemmas.{lasts_further}
use Rattle.pt_desk.proofs.FindLemmas.{found_all, found_at}
use Rattle.pt_desk.proofs.RunLemmas.{ended, failure_told, goes_on_at, only_told_at}
use Rattle.pt_desk.proofs.running.run.Goals as goal

pub loop-call-preserved : goal.loop-call-preserved
loop-call-preserved g c =
    let store = g.K.Keeper.store in
    let before = store c.loop-call.keeper in
    let after = store c.answer_call-reply.new.keeper in
    let i = c.loop-call.call-index in
    let calls = c.args.calls.now in
    let reply = c.answer_call-reply.result in
    let answers = c.answer_call-reply.ensures.goes in
    let goes = answers.2 in
    let cleaner : before.doubt ≤ after.doubt = goes.clean in
    let serving : before.shut ≤ after.shut = goes.serves in
    let growing : before.failures ≤ after.failures = goes.grows in
    let pushed : c.push.new.self.items ≡ c.loop-call.replies.items ++ reply ∷ [] = grind (arith, common_steps) in
    record {
      room = grind (arith, common_steps);
      clean = omega arith;
      serves = omega arith;
      grows = omega arith;
      lasts = lasts_further (store c.args.keeper.now) before after c.loop-call.invariant.lasts c.answer_call-reply.ensures.lasts;
      finds = λ clean none finds.
          found_at (store c.args.keeper.now).content calls i c.call-item.result c.loop-call.replies.items c.push.new.self.items reply before after c.loop-call-test.true c.call-item.is pushed
          (c.loop-call.invariant.finds (omega arith) none finds) answers clean (λ some. c.answer_call-reply.ensures.lasts.silent (c.loop-call.invariant.told some));
      settled = λ was. goes.settled (c.loop-call.invariant.settled was);
      sound = λ clean none sound. c.answer_call-reply.ensures.sound clean none (c.loop-call.invariant.sound (omega arith) (omega arith) sound);
      fits = λ clean sound.
          c.answer_call-reply.ensures.fits clean (λ none. c.loop-call.invariant.sound (omega arith) none (sound (omega (arith, none, c.loop-call.invariant.grows))))
          ∙ c.loop-call.invariant.fits (omega arith) sound;
      told = λ some. failure_told c.loop-call.replies.items c.push.new.self.items reply before.failures after.failures pushed growing
          c.loop-call.invariant.told c.answer_call-reply.ensures.fails.told some;
      only_told = λ rest told.
          let joined : c.push.new.self.items ++ rest ≡ c.loop-call.replies.items ++ reply ∷ rest = rw (pushed, append_assoc) refl in
          only_told_at calls i c.call-item.result reply rest (store c.args.keeper.now) before after c.loop-call-test.true c.call-item.is cleaner c.answer_call-reply.ensures.only_told
          (c.loop-call.invariant.only_told (reply ∷ rest) (subst (λ replies. AreOnlyTold calls replies) joined told));
      rest = λ clean rest new left.
          let was : before.doubt ≡ 0 = omega arith in
          let on = goes_on_at calls i c.call-item.result reply rest before.content after.content new before.failures
          after.failures c.loop-call-test.true c.call-item.is c.answer_call-reply.ensures.fails
          (tells_by before after (IsOutcomeOf c.call-item.result) reply answers clean) left in
          rw (pushed, append_assoc) (c.loop-call.invariant.rest was (reply ∷ rest) new on);
    }

pub returns-clause-runs : goal.returns-clause-runs
returns-clause-runs g c clean =
    let s = g.K.Keeper.store c.loop-call.keeper in
    rw append-nil at (c.loop-call.invariant.rest clean [] s.content (ended s.failures s.content c.args.calls.now c.loop-call.call-index (omega arith)))

pub returns-clause-only_told : goal.returns-clause-only_told
returns-clause-only_told g c told =
    let same = (c.loop-call.invariant.only_told [] (subst (λ replies. AreOnlyTold c.args.calls.now replies) (sym (append-nil c.loop-call.replies.items)) told)).0 in
    record { content = same.content; found = same.found }

pub returns-clause-finds : goal.returns-clause-finds
returns-clause-finds g c clean none finds =
    found_all (g.K.Keeper.store c.args.keeper.now).content c.args.calls.now c.loop-call.call-index c.loop-call.replies.items (g.K.Keeper.store c.loop-call.keeper) (omega arith)
    (c.loop-call.invariant.finds clean none finds)
