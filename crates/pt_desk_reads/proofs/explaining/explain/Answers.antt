use Rattle.std.proofs.Common.{None}
use Rattle.pt_desk_reads.proofs.ExplainLemmas.{explained, told_of}
use Rattle.pt_desk_reads.proofs.explaining.explain.Goals as goal

pub returns-in_ok-found-in-Ok : goal.returns-in_ok-found-in-Ok
returns-in_ok-found-in-Ok c =
    let facts = c.args.facts.now in
    let wish = c.args.wish.now in
    record {
      value = explained wish c.args.me.now c.args.now facts c.told_of.result None c.in-Ok.ensures.allowed
          (told_of c.in-Ok.trip wish c.args.now.0 facts c.in_ok-found-in-Ok.found c.told_of.result c.in-Ok.ensures.number
          (c.in_ok-found-in-Ok.ensures.value c.in-Ok.ensures.asking) c.told_of.ensures);
    }
