use Rattle.std.proofs.Common.{◌≡◌, refl, subst, Option}
use Rattle.pt_desk_rules.specs.Deciding.{IsDecision}
use Rattle.pt_desk_rules.specs.Facts.{facts_of}
use Rattle.pt_desk_rules.specs.State.{State}
use Rattle.pt_desk_rules.specs.Step.{sent_with, told_of, left_of, IsDecidedOutcome}
use Rattle.pt_desk_requests.specs.declared.request.Answer.{Answer}
use Rattle.pt_desk_requests.specs.declared.request.Answer.TheVariants.{Done}
use Rattle.pt_desk_rules.specs.declared.kept.Sent.{Sent}
use Rattle.pt_desk_store.specs.Store.{Answers}
use Rattle.pt_desk_store.specs.declared.keeper.StoreFault.TheVariants.{Memory}
use Rattle.pt_desk.specs.Fitting.{ChangesByRules, IsNewBy}
use Rattle.pt_desk.proofs.AnswerLemmas.{known_then, read_fault, read_memory, goes_by, handed}
use Rattle.pt_desk.proofs.FitLemmas.{decided_by_rules, fits_known, fits_read}
use Rattle.pt_desk.proofs.answering.answer_new.Goals as goal

pub returns-in_err-ruling : goal.returns-in_err-ruling
returns-in_err-ruling g c =
    let a = g.K.Keeper.store c.args.keeper.now in
    let b = g.K.Keeper.store c.rule_on.new.keeper in
    let Is = IsDecidedOutcome c.args.write.now c.args.me.now c.args.now c.args.sent.number in
    let read = c.in_err-ruling.ensures.goes.1 in
    record {
      goes = handed (λ r. Answers a b Is r) c.in_err-ruling.field-0.0 c.from_residual.result c.from_residual.ensures.1
          (read_fault a b _ Done c.in_err-ruling.field-0.0 Is read);
      fits = fits_read a b _ _ (IsNewBy c.args.me.now c.args.sent.number c.args.write.now) read;
    }

pub returns-in_err-decision : goal.returns-in_err-decision
returns-in_err-decision g c =
    let a = g.K.Keeper.store c.args.keeper.now in
    let b = g.K.Keeper.store c.rule_on.new.keeper in
    let Is = IsDecidedOutcome c.args.write.now c.args.me.now c.args.now c.args.sent.number in
    let read = c.in_ok-ruling.ensures.goes.1 in
    record {
      goes = handed (λ r. Answers a b Is r) Memory c.from_residual-in_err-decision.result
          c.from_residual-in_err-decision.ensures.1 (read_memory a b c.in_ok-ruling.ruling _ Done Is read);
      fits = fits_read a b _ _ (IsNewBy c.args.me.now c.args.sent.number c.args.write.now) read;
    }

pub returns : goal.returns
returns g c =
    let a = g.K.Keeper.store c.args.keeper.now in
    let b = g.K.Keeper.store c.rule_on.new.keeper in
    let d = g.K.Keeper.store c.carry_out.new.keeper in
    let asked = c.args.write.now in
    let me = c.args.me.now in
    let now = c.args.now in
    let number = c.args.sent.number in
    let decision = c.in_ok-decision.decision in
    let facts = facts_of asked a.content in
    let Is = IsDecidedOutcome asked me now number in
    let IsCarried = λ (s : State) (told : Answer) (left : Option State).
    (told ≡ told_of decision) × (left ≡ left_of decision s) in
    let read = c.in_ok-ruling.ensures.goes.1 in
    let decided : b.doubt ≡ 0 → IsDecision asked me now (sent_with number asked) facts decision
    = λ clean. subst (λ (sent : Sent). IsDecision asked me now sent facts decision) c.requires.spelled
    (c.in_ok-decision.ensures.decided asked now facts (c.in_ok-ruling.ensures.is clean)) in
    record {
      goes = known_then a b d c.in_ok-ruling.ruling _ IsCarried Is c.carry_out.result read
          (goes_by b d (told_of decision) (left_of decision b.content) IsCarried c.carry_out.result
          c.carry_out.ensures.goes (refl, refl))
          (λ clean told left carried.
          (decision, decided clean, (c.in_ok-decision.ensures.ranges, c.requires.ranges), carried.0, carried.1));
      fits = fits_known a b d c.in_ok-ruling.ruling _ (IsNewBy me number asked) (ChangesByRules decision) read
          c.carry_out.ensures.goes.clean c.carry_out.ensures.fits
          (λ clean new. decided_by_rules asked me now number a.content decision (decided clean)
          c.in_ok-decision.ensures.ranges c.requires.ranges new);
    }
