use Rattle.std.proofs.Common.{arith, rules}
use Rattle.pt_corridor.proofs.Box.{short_decided}
use Rattle.pt_corridor.proofs.near.falls_short.Goals as goal

pub returns : goal.returns
returns c =
    short_decided c.args.from c.args.to c.from.result c.from-2.result c.from-3.result c.args.feet (search rules) (search rules) (omega arith) c.from.ensures c.from-2.ensures c.from-3.ensures
