use Rattle.pt_corridor.proofs.Widths.{across_fits, across_is}
use Rattle.pt_corridor.proofs.near.Way.cross.Goals as goal

pub overflow_sub-result : goal.overflow_sub-result
overflow_sub-result c =
    let u = c.args.self in
    let v = c.args.other in
    across_fits u.east u.north v.east v.north u.in_range v.in_range c.requires

pub returns : goal.returns
returns c =
    let u = c.args.self in
    let v = c.args.other in
    across_is u.east u.north v.east v.north u.in_range v.in_range c.requires
