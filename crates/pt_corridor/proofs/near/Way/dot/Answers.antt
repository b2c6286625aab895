use Rattle.pt_corridor.proofs.Widths.{along_fits, along_is}
use Rattle.pt_corridor.proofs.near.Way.dot.Goals as goal

pub overflow_add-result : goal.overflow_add-result
overflow_add-result c =
    let u = c.args.self in
    let v = c.args.other in
    along_fits u.east u.north v.east v.north u.in_range v.in_range c.requires

pub returns : goal.returns
returns c =
    let u = c.args.self in
    let v = c.args.other in
    along_is u.east u.north v.east v.north u.in_range v.in_range c.requires
