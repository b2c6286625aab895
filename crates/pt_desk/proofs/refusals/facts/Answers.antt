use Rattle.std.proofs.Common.{Ok, ap, refl, ◌∙◌}
use Rattle.pt_desk.proofs.RefusalLemmas.{gives}
use Rattle.pt_desk.proofs.refusals.facts.Goals as goal
use Rattle.pt_desk_reads.specs.declared.explaining.Inquiry.TheVariants as inquiry

pub returns-in-Ok-Facts : goal.returns-in-Ok-Facts
returns-in-Ok-Facts g c =
    let store = g.K.Keeper.store in
    gives c.args.key.now c.args.now c.args.request.now c.in-Explain.rider c.in-Explain.wish
    (store c.args.keeper.now) (store c.inquire.new.keeper) c.inquire.result (Ok (inquiry.Facts c.in-Ok-Facts.found)) _
    c.in-Explain.is (c.in-Ok-Facts.is ∙ ap Ok c.in-Ok-Facts.field-0-is) refl (record {
      goes = c.inquire.ensures.goes;
      fails = c.inquire.ensures.fails;
      found = c.inquire.ensures.found;
      unchanged = c.inquire.ensures.unchanged;
    })
