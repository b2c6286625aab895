use Rattle.std.proofs.Common.{sym, ◌∙◌}
use Rattle.pt_desk_store.proofs.DenialLemmas.{wished_denied, wished_whole}
use Rattle.pt_desk_store.proofs.SomeLemmas.{some_memory}
use Rattle.pt_desk_store.proofs.wished.gather_wished.Goals as goal

pub returns-in_err-is_denied_to_rider : goal.returns-in_err-is_denied_to_rider
returns-in_err-is_denied_to_rider g c = record {
  reads = λ asking. some_memory _ _ c.in_ok-facts.facts _ c.args.facts _ c.from_residual-in_err-is_denied_to_rider.result
      c.from_residual-in_err-is_denied_to_rider.ensures.1 c.in_ok-facts.ensures.reads;
}

pub returns-then-branch : goal.returns-then-branch
returns-then-branch g c = record {
  reads = λ asking. wished_denied _ _ c.args.number c.args.left_out.now c.args.today c.args.wish.now c.args.facts c.in_ok-facts.facts
      c.args.asking.now c.in_ok-facts.ensures.reads asking
      (λ asks. (c.in_ok-is_denied_to_rider.ensures.value asks).0 c.if-branch.true);
}

pub returns : goal.returns
returns g c = record {
  reads = λ asking. wished_whole _ _ _ c.args.number c.args.left_out.now c.args.today c.args.wish.now c.args.facts c.in_ok-facts.facts
      c.gather_plans_for.result c.in_ok-facts.ensures.reads c.gather_plans_for.ensures.reads;
}
