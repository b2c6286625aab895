use Rattle.std.proofs.Common.{◌∙◌, sym, ap, subst, refl, None, List, ℕ}
use Rattle.pt_base_values.specs.declared.rule.Rule.TheVariants.{Number}
use Rattle.pt_desk_rules.specs.Arrival.{arrival_of}
use Rattle.pt_desk_rules.specs.State.{kept_of}
use Rattle.pt_desk_rules.specs.Step.{IsDecidedOutcome, IsOutcomeAs, IsWriteOutcome}
use Rattle.pt_desk_rules.specs.declared.kept.Arrival.{Arrival}
use Rattle.pt_desk_rules.specs.declared.kept.Arrival.TheVariants.{Repeated, Stale}
use Rattle.pt_desk_requests.specs.declared.request.Answer.TheVariants.{Done, Denied}
use Rattle.pt_desk_store.specs.Store.{Answers}
use Rattle.pt_desk_store.specs.declared.keeper.StoreFault.TheVariants.{Memory}
use Rattle.pt_desk.specs.Fitting.{IsNewBy, IsSentBy}
use Rattle.pt_desk.proofs.AnswerLemmas.{no_memory, read_then, read_told, read_fault, handed}
use Rattle.pt_desk.proofs.FitLemmas.{fits_read, fits_then}
use Rattle.pt_desk.proofs.answering.answer_write.Goals as goal

pub returns-in_err-request : goal.returns-in_err-request
returns-in_err-request g c =
    let a = g.K.Keeper.store c.args.keeper.now in
    let Is = IsWriteOutcome c.args.write.now c.args.me.now c.args.now c.args.number in
    record {
      goes = handed (λ r. Answers a a Is r) Memory c.from_residual.result c.from_residual.ensures.1 (no_memory a Done Is);
      fits = λ _ _. refl;
    }

pub returns-in_err-arrival : goal.returns-in_err-arrival
returns-in_err-arrival g c =
    let a = g.K.Keeper.store c.args.keeper.now in
    let b = g.K.Keeper.store c.arrival.new.self in
    let Is = IsWriteOutcome c.args.write.now c.args.me.now c.args.now c.args.number in
    record {
      goes = handed (λ r. Answers a b Is r) c.in_err-arrival.field-0.0 c.from_residual-in_err-arrival.result c.from_residual-in_err-arrival.ensures.1
          (read_fault a b _ Done c.in_err-arrival.field-0.0 Is c.in_err-arrival.ensures.reads);
      fits = fits_read a b _ _ (IsSentBy c.args.me.now) c.in_err-arrival.ensures.reads;
    }

pub returns-in-New : goal.returns-in-New
returns-in-New g c =
    let a = g.K.Keeper.store c.args.keeper.now in
    let b = g.K.Keeper.store c.arrival.new.self in
    let d = g.K.Keeper.store c.answer_new.new.keeper in
    let arrival = λ (request : List ℕ). arrival_of c.args.number request (kept_of c.args.me.now.id a.content) in
    let Is = IsWriteOutcome c.args.write.now c.args.me.now c.args.now c.args.number in
    let IsNew = IsDecidedOutcome c.args.write.now c.args.me.now c.args.now c.args.number in
    record {
      goes = read_then a b d c.in_ok-arrival.field-0 (arrival c.in_ok-request.request) IsNew Is c.answer_new.result c.in_ok-arrival.ensures.reads c.answer_new.ensures.goes
          (λ is told left outcome. subst (λ (comes : Arrival). IsOutcomeAs comes c.args.write.now c.args.me.now c.args.now c.args.number a.content told left)
          (sym c.in-New.is ∙ is ∙ ap arrival c.in_ok-request.ensures.value) outcome);
      fits = fits_then a b d c.in_ok-arrival.field-0 (arrival c.in_ok-request.request) (IsSentBy c.args.me.now) (IsNewBy c.args.me.now c.args.number c.args.write.now)
          c.in_ok-arrival.ensures.reads c.answer_new.ensures.goes.2.clean c.answer_new.ensures.fits
          (λ is sent. (sent, sym (sym c.in-New.is ∙ is ∙ ap arrival c.in_ok-request.ensures.value)));
    }

pub returns-in-Repeated : goal.returns-in-Repeated
returns-in-Repeated g c =
    let a = g.K.Keeper.store c.args.keeper.now in
    let b = g.K.Keeper.store c.arrival.new.self in
    let arrival = λ (request : List ℕ). arrival_of c.args.number request (kept_of c.args.me.now.id a.content) in
    let Is = IsWriteOutcome c.args.write.now c.args.me.now c.args.now c.args.number in
    let repeated : IsOutcomeAs (Repeated c.in-Repeated.reply) c.args.write.now c.args.me.now c.args.now c.args.number a.content c.answer.result None = (c.answer.ensures, refl) in
    record {
      goes = read_told a b c.in_ok-arrival.field-0 (arrival c.in_ok-request.request) c.answer.result Is c.in_ok-arrival.ensures.reads
          (λ is. subst (λ (comes : Arrival). IsOutcomeAs comes c.args.write.now c.args.me.now c.args.now c.args.number a.content c.answer.result None)
          (sym c.in-Repeated.is ∙ is ∙ ap arrival c.in_ok-request.ensures.value) repeated);
      fits = fits_read a b _ _ (IsSentBy c.args.me.now) c.in_ok-arrival.ensures.reads;
    }

pub returns-in-Stale : goal.returns-in-Stale
returns-in-Stale g c =
    let a = g.K.Keeper.store c.args.keeper.now in
    let b = g.K.Keeper.store c.arrival.new.self in
    let arrival = λ (request : List ℕ). arrival_of c.args.number request (kept_of c.args.me.now.id a.content) in
    let Is = IsWriteOutcome c.args.write.now c.args.me.now c.args.now c.args.number in
    let stale : IsOutcomeAs Stale c.args.write.now c.args.me.now c.args.now c.args.number a.content (Denied Number) None = (refl, refl) in
    record {
      goes = read_told a b c.in_ok-arrival.field-0 (arrival c.in_ok-request.request) (Denied Number) Is c.in_ok-arrival.ensures.reads
          (λ is. subst (λ (comes : Arrival). IsOutcomeAs comes c.args.write.now c.args.me.now c.args.now c.args.number a.content (Denied Number) None)
          (sym c.in-Stale.is ∙ is ∙ ap arrival c.in_ok-request.ensures.value) stale);
      fits = fits_read a b _ _ (IsSentBy c.args.me.now) c.in_ok-arrival.ensures.reads;
    }
