use Rattle.std.proofs.Common.{◌∙◌, refl, sym, ap, subst, Some, None, ℕ, List}
use Rattle.pt_desk_requests.specs.declared.request.Request.{Request}
use Rattle.pt_base_values.specs.declared.rule.Rule.TheVariants.{Key}
use Rattle.pt_desk_rules.specs.Sound.{IsSound}
use Rattle.pt_desk_rules.specs.State.{caller_with}
use Rattle.pt_desk_rules.specs.Step.{IsExplainOutcome, IsReadOutcome, IsWriteOutcome, IsOutcomeBy, IsOutcome}
use Rattle.pt_desk_requests.specs.declared.request.Answer.TheVariants.{Done, Denied}
use Rattle.pt_desk_store.specs.Store.{Answers}
use Rattle.pt_desk.specs.Fitting.{IsSentBy}
use Rattle.pt_desk.proofs.AnswerLemmas.{read_then, read_told, read_fault, handed}
use Rattle.pt_desk.proofs.FitLemmas.{fits_quiet, fits_read, fits_then}
use Rattle.pt_desk.proofs.answering.answer_by_rules.Goals as goal

pub returns-in_err-me : goal.returns-in_err-me
returns-in_err-me g c =
    let a = g.K.Keeper.store c.args.keeper.now in
    let b = g.K.Keeper.store c.caller_with.new.self in
    let Is = IsOutcome c.args.key.now c.args.now c.args.number c.args.request.now in
    record {
      goes = handed (λ r. Answers a b Is r) c.in_err-me.field-0.0 c.from_residual.result c.from_residual.ensures.1
          (read_fault a b _ Done c.in_err-me.field-0.0 Is c.in_err-me.ensures.reads);
      fits = fits_read a b _ _ IsSound c.in_err-me.ensures.reads;
    }

pub returns-in_default : goal.returns-in_default
returns-in_default g c =
    let a = g.K.Keeper.store c.args.keeper.now in
    let b = g.K.Keeper.store c.caller_with.new.self in
    let Is = IsOutcome c.args.key.now c.args.now c.args.number c.args.request.now in
    let denied : IsOutcomeBy None c.args.now c.args.number c.args.request.now a.content (Denied Key) None = (refl, refl) in
    record {
      goes = read_told a b c.in_ok-me.field-0 (caller_with c.of_key.result a.content) (Denied Key) Is c.in_ok-me.ensures.reads
          (λ is. subst (λ found. IsOutcomeBy found c.args.now c.args.number c.args.request.now a.content (Denied Key) None)
          (sym c.in_default.is ∙ is ∙ ap (λ (digest : List ℕ). caller_with digest a.content) c.of_key.ensures.value) denied);
      fits = fits_read a b _ _ IsSound c.in_ok-me.ensures.reads;
    }

pub returns-in-Read : goal.returns-in-Read
returns-in-Read g c =
    let a = g.K.Keeper.store c.args.keeper.now in
    let b = g.K.Keeper.store c.caller_with.new.self in
    let d = g.K.Keeper.store c.answer_read.new.keeper in
    let Is = IsOutcome c.args.key.now c.args.now c.args.number c.args.request.now in
    let IsRead = IsReadOutcome c.in-Read.read c.in-Some.me c.args.now in
    record {
      goes = read_then a b d c.in_ok-me.field-0 (caller_with c.of_key.result a.content) IsRead Is c.answer_read.result c.in_ok-me.ensures.reads c.answer_read.ensures.goes
          (λ is told left outcome. subst (λ found. IsOutcomeBy found c.args.now c.args.number c.args.request.now a.content told left)
          (sym c.in-Some.is ∙ is ∙ ap (λ (digest : List ℕ). caller_with digest a.content) c.of_key.ensures.value)
          (subst (λ (asked : Request). IsOutcomeBy (Some c.in-Some.me) c.args.now c.args.number asked a.content told left) (sym c.in-Read.is) outcome));
      fits = fits_then a b d c.in_ok-me.field-0 (caller_with c.of_key.result a.content) IsSound IsSound c.in_ok-me.ensures.reads c.answer_read.ensures.goes.2.clean
          (fits_quiet b d IsRead c.answer_read.result IsSound c.answer_read.ensures.goes (λ told left outcome. outcome.1)) (λ _ sound. sound);
    }

pub returns-in-Explain : goal.returns-in-Explain
returns-in-Explain g c =
    let a = g.K.Keeper.store c.args.keeper.now in
    let b = g.K.Keeper.store c.caller_with.new.self in
    let d = g.K.Keeper.store c.answer_explain.new.keeper in
    let Is = IsOutcome c.args.key.now c.args.now c.args.number c.args.request.now in
    let IsTold = IsExplainOutcome c.in-Explain.rider c.in-Explain.wish c.in-Some.me c.args.now in
    record {
      goes = read_then a b d c.in_ok-me.field-0 (caller_with c.of_key.result a.content) IsTold Is c.answer_explain.result
          c.in_ok-me.ensures.reads c.answer_explain.ensures.goes
          (λ is told left outcome. subst (λ found. IsOutcomeBy found c.args.now c.args.number c.args.request.now a.content told left)
          (sym c.in-Some.is ∙ is ∙ ap (λ (digest : List ℕ). caller_with digest a.content) c.of_key.ensures.value)
          (subst (λ (asked : Request). IsOutcomeBy (Some c.in-Some.me) c.args.now c.args.number asked a.content told left) (sym c.in-Explain.is) outcome));
      fits = fits_then a b d c.in_ok-me.field-0 (caller_with c.of_key.result a.content) IsSound IsSound c.in_ok-me.ensures.reads c.answer_explain.ensures.goes.2.clean
          (fits_quiet b d IsTold c.answer_explain.result IsSound c.answer_explain.ensures.goes (λ told left outcome. outcome.1)) (λ _ sound. sound);
    }

pub returns-in-Write : goal.returns-in-Write
returns-in-Write g c =
    let a = g.K.Keeper.store c.args.keeper.now in
    let b = g.K.Keeper.store c.caller_with.new.self in
    let d = g.K.Keeper.store c.answer_write.new.keeper in
    let Is = IsOutcome c.args.key.now c.args.now c.args.number c.args.request.now in
    let IsWritten = IsWriteOutcome c.in-Write.write c.in-Some.me c.args.now c.args.number in
    record {
      goes = read_then a b d c.in_ok-me.field-0 (caller_with c.of_key.result a.content) IsWritten Is c.answer_write.result c.in_ok-me.ensures.reads c.answer_write.ensures.goes
          (λ is told left outcome. subst (λ found. IsOutcomeBy found c.args.now c.args.number c.args.request.now a.content told left)
          (sym c.in-Some.is ∙ is ∙ ap (λ (digest : List ℕ). caller_with digest a.content) c.of_key.ensures.value)
          (subst (λ (asked : Request). IsOutcomeBy (Some c.in-Some.me) c.args.now c.args.number asked a.content told left) (sym c.in-Write.is) outcome));
      fits = fits_then a b d c.in_ok-me.field-0 (caller_with c.of_key.result a.content) IsSound (IsSentBy c.in-Some.me) c.in_ok-me.ensures.reads
          c.answer_write.ensures.goes.2.clean c.answer_write.ensures.fits
          (λ is sound. (sound, (c.args.key.now, sym (sym c.in-Some.is ∙ is ∙ ap (λ (digest : List ℕ). caller_with digest a.content) c.of_key.ensures.value))));
    }
