use Rattle.std.proofs.Common.{ℕ, List, Some, None, ap, refl, subst, sym, ◌∙◌}
use Rattle.pt_base_values.specs.declared.rule.Rule.TheVariants.{Key}
use Rattle.pt_desk.proofs.AnswerLemmas.{handed, read_fault, read_then, read_told}
use Rattle.pt_desk.proofs.refusals.inquire_by_key.Goals as goal
use Rattle.pt_desk.specs.Refusals.{IsFacts, IsInquiryBy}
use Rattle.pt_desk_store.specs.Store.{Answers}
use Rattle.pt_desk_rules.specs.State.{caller_with}
use Rattle.pt_desk_reads.specs.declared.explaining.Inquiry.TheVariants.{Denied}

pub returns-in_err-me : goal.returns-in_err-me
returns-in_err-me g c =
    let a = g.K.Keeper.store c.args.keeper.now in
    let b = g.K.Keeper.store c.caller_with.new.self in
    let Is = IsFacts c.args.key.now c.args.now c.args.rider c.args.wish.now in
    record {
      goes = handed (λ r. Answers a b Is r) c.in_err-me.field-0.0 c.from_residual.result c.from_residual.ensures.1
          (read_fault a b _ (Denied Key) c.in_err-me.field-0.0 Is c.in_err-me.ensures.reads);
    }

pub returns-in_default : goal.returns-in_default
returns-in_default g c =
    let a = g.K.Keeper.store c.args.keeper.now in
    let b = g.K.Keeper.store c.caller_with.new.self in
    let Is = IsFacts c.args.key.now c.args.now c.args.rider c.args.wish.now in
    let denied : IsInquiryBy None c.args.now c.args.rider c.args.wish.now a.content (Denied Key) None = (refl, refl) in
    record {
      goes = read_told a b c.in_ok-me.field-0 (caller_with c.of_key.result a.content) (Denied Key) Is
          c.in_ok-me.ensures.reads
          (λ is. subst (λ found. IsInquiryBy found c.args.now c.args.rider c.args.wish.now a.content (Denied Key) None)
          (sym c.in_default.is ∙ is ∙ ap (λ (digest : List ℕ). caller_with digest a.content) c.of_key.ensures.value)
          denied);
    }

pub returns : goal.returns
returns g c =
    let a = g.K.Keeper.store c.args.keeper.now in
    let b = g.K.Keeper.store c.caller_with.new.self in
    let d = g.K.Keeper.store c.inquire_as.new.keeper in
    let Is = IsFacts c.args.key.now c.args.now c.args.rider c.args.wish.now in
    let IsMine = IsInquiryBy (Some c.in-Some.me) c.args.now c.args.rider c.args.wish.now in
    record {
      goes = read_then a b d c.in_ok-me.field-0 (caller_with c.of_key.result a.content) IsMine Is c.inquire_as.result
          c.in_ok-me.ensures.reads c.inquire_as.ensures.goes
          (λ is found left outcome. subst (λ by. IsInquiryBy by c.args.now c.args.rider c.args.wish.now a.content found
          left) (sym c.in-Some.is ∙ is ∙ ap (λ (digest : List ℕ). caller_with digest a.content) c.of_key.ensures.value)
          outcome);
    }
