use Rattle.std.proofs.Common.{refl, subst, Some}
use Rattle.pt_base_values.specs.declared.rule.Rule.TheVariants.{Key}
use Rattle.pt_desk.proofs.AnswerLemmas.{handed, read_fault, read_memory, read_told}
use Rattle.pt_desk.proofs.refusals.inquire_as.Goals as goal
use Rattle.pt_desk.specs.Refusals.{IsInquiryBy}
use Rattle.pt_desk_store.specs.Store.{Answers}
use Rattle.pt_desk_store.specs.declared.keeper.StoreFault.TheVariants.{Memory}
use Rattle.pt_desk_reads.specs.Inquiry.{IsInquiry}
use Rattle.pt_desk_reads.specs.declared.explaining.Inquiry.TheVariants.{Denied}

pub returns-in_err-facts : goal.returns-in_err-facts
returns-in_err-facts g c =
    let a = g.K.Keeper.store c.args.keeper.now in
    let b = g.K.Keeper.store c.gather_wish.new.keeper in
    let Is = IsInquiryBy (Some c.args.me.now) c.args.now c.args.rider c.args.wish.now in
    record {
      goes = handed (λ r. Answers a b Is r) c.in_err-facts.field-0.0 c.from_residual.result c.from_residual.ensures.1
          (read_fault a b _ (Denied Key) c.in_err-facts.field-0.0 Is c.in_err-facts.ensures.reads);
    }

pub returns-in_err-refusal_facts : goal.returns-in_err-refusal_facts
returns-in_err-refusal_facts g c =
    let a = g.K.Keeper.store c.args.keeper.now in
    let b = g.K.Keeper.store c.gather_wish.new.keeper in
    let Is = IsInquiryBy (Some c.args.me.now) c.args.now c.args.rider c.args.wish.now in
    record {
      goes = handed (λ r. Answers a b Is r) Memory c.from_residual-in_err-refusal_facts.result
          c.from_residual-in_err-refusal_facts.ensures.1
          (read_memory a b c.in_ok-facts.facts _ (Denied Key) Is c.in_ok-facts.ensures.reads);
    }

pub returns : goal.returns
returns g c =
    let a = g.K.Keeper.store c.args.keeper.now in
    let b = g.K.Keeper.store c.gather_wish.new.keeper in
    let Is = IsInquiryBy (Some c.args.me.now) c.args.now c.args.rider c.args.wish.now in
    record {
      goes = read_told a b c.in_ok-facts.facts _ c.in_ok-refusal_facts.field-0 Is c.in_ok-facts.ensures.reads
          (λ is. (
            subst (λ facts. IsInquiry c.args.wish.now c.args.me.now c.args.now facts
                c.in_ok-refusal_facts.field-0) is c.in_ok-refusal_facts.ensures.value,
            refl,
          ));
    }
