use Rattle.pt_desk_reads.proofs.ExplainLemmas.{inquired_by, limited}
use Rattle.pt_desk_reads.proofs.explaining.refusal_facts.Goals as goal

pub returns-in-Err : goal.returns-in-Err
returns-in-Err c = record {
  value = limited c.args.wish.now c.args.me.now c.args.now c.args.facts.now c.in-Err.rule c.in-Err.ensures.denied;
}

pub returns-in-Ok : goal.returns-in-Ok
returns-in-Ok c = record {
  value = inquired_by c.args.wish.now c.args.me.now c.args.now c.args.facts.now c.inquire.result
      c.in-Ok.ensures.allowed (c.inquire.ensures c.in-Ok.ensures.asking c.in-Ok.ensures.number);
}
