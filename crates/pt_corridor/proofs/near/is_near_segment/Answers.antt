use Rattle.std.proofs.Common.{◌≡◌, ◌<◌, ◌≤◌, ◌^◌, ◌*◌, ap, subst, sym, ◌∙◌, arith, rules, ℤ, pos, ◌-ℤ◌, ◌*ℤ◌, ◌<ℤ◌, unsigned_abs, FitsSigned}
use Rattle.std.proofs.lemmas.Int.{ints}
use Rattle.pt_corridor.specs.Near.{squared_length}
use Rattle.pt_corridor.specs.Way.{dot_product, cross_product}
use Rattle.pt_corridor.proofs.Decided.{start_decided, end_decided, side_decided, plane_way, length_within, reach_times_fits, reach_is, read_is, not_above_zero, above_zero, not_above, above}
use Rattle.pt_corridor.proofs.Widths.{read, read64_is}
use Rattle.pt_corridor.proofs.near.is_near_segment.Goals as goal
use mir.Syntax.{w128}

pub returns-then-along-le0 : goal.returns-then-along-le0
returns-then-along-le0 c =
    let p = c.args.point in
    let a = c.args.start in
    let b = c.args.end in
    let along_is : c.dot-along.result ≡ dot_product (p.x -ℤ a.x) (p.y -ℤ a.y) (b.x -ℤ a.x) (b.y -ℤ a.y) = cc in
    let length_is : c.squared_length.result ≡ squared_length (p.x -ℤ a.x) (p.y -ℤ a.y) = cc in
    let behind = not_above_zero c.dot-along.result (search rules) c.if-along-le0.true in
    start_decided c.args.feet (p.x -ℤ a.x) (p.y -ℤ a.y) (b.x -ℤ a.x) (b.y -ℤ a.y) c.dot-along.result
    c.squared_length.result c.from.result c.from-2.result (omega arith) c.from.ensures c.from-2.ensures along_is
    length_is behind (search rules)

pub returns-then-along-length : goal.returns-then-along-length
returns-then-along-length c =
    let p = c.args.point in
    let a = c.args.start in
    let b = c.args.end in
    let along_is : c.dot-along.result ≡ dot_product (p.x -ℤ a.x) (p.y -ℤ a.y) (b.x -ℤ a.x) (b.y -ℤ a.y) = cc in
    let length_is : c.dot-length.result ≡ squared_length (b.x -ℤ a.x) (b.y -ℤ a.y) = cc in
    let rest_is : c.squared_length-then-along-length.result ≡ squared_length (p.x -ℤ b.x) (p.y -ℤ b.y) = cc in
    let east : p.x -ℤ b.x ≡ (p.x -ℤ a.x) -ℤ (b.x -ℤ a.x) = omega (arith, ints) in
    let north : p.y -ℤ b.y ≡ (p.y -ℤ a.y) -ℤ (b.y -ℤ a.y) = omega (arith, ints) in
    let past = not_above c.dot-length.result c.dot-along.result (search rules) (search rules) c.if-along-length.true in
    end_decided c.args.feet (p.x -ℤ a.x) (p.y -ℤ a.y) (b.x -ℤ a.x) (b.y -ℤ a.y) (p.x -ℤ b.x) (p.y -ℤ b.y)
    c.dot-along.result c.dot-length.result c.squared_length-then-along-length.result c.from.result c.from-2.result
    (omega arith) c.from.ensures c.from-2.ensures along_is length_is rest_is east north past (search rules)

pub overflow_mul-result-2 : goal.overflow_mul-result-2
overflow_mul-result-2 c =
    let a = c.args.start in
    let b = c.args.end in
    let dot_is : c.dot-length.result ≡ squared_length (b.x -ℤ a.x) (b.y -ℤ a.y) = cc in
    let length_is : c.from-length.result ≡ squared_length (b.x -ℤ a.x) (b.y -ℤ a.y) = c.from-length.ensures ∙ read64_is c.dot-length.result (search rules) ∙ dot_is in
    let vx = plane_way a.x b.x c.requires.start_on_plane.0 c.requires.end_on_plane.0 in
    let vy = plane_way a.y b.y c.requires.start_on_plane.1 c.requires.end_on_plane.1 in
    let small = subst (λ (z : ℤ). unsigned_abs z ≤ 2 ^ 43) (sym length_is) (length_within (b.x -ℤ a.x) (b.y -ℤ a.y) vx vy) in
    let fits : FitsSigned w128 c.from-length.result = search rules in
    let reach = reach_is c.args.feet c.from.result c.from-2.result (omega arith) c.from.ensures c.from-2.ensures in
    let same : pos (c.args.feet * c.args.feet) *ℤ c.from-length.result ≡ read (read c.from.result *ℤ read c.from-2.result) *ℤ read c.from-length.result =
    ap (λ k. k *ℤ c.from-length.result) (sym reach) ∙ ap (λ k. read (read c.from.result *ℤ read c.from-2.result) *ℤ k) (sym (read_is c.from-length.result fits))
    in
    subst (FitsSigned w128) same (reach_times_fits c.args.feet c.from-length.result (omega arith) small)

pub returns : goal.returns
returns c =
    let p = c.args.point in
    let a = c.args.start in
    let b = c.args.end in
    let along_is : c.dot-along.result ≡ dot_product (p.x -ℤ a.x) (p.y -ℤ a.y) (b.x -ℤ a.x) (b.y -ℤ a.y) = cc in
    let dot_is : c.dot-length.result ≡ squared_length (b.x -ℤ a.x) (b.y -ℤ a.y) = cc in
    let length_same : c.from-length.result ≡ c.dot-length.result = c.from-length.ensures ∙ read64_is c.dot-length.result (search rules) in
    let cross_is : c.cross.result ≡ cross_product (p.x -ℤ a.x) (p.y -ℤ a.y) (b.x -ℤ a.x) (b.y -ℤ a.y) = cc in
    let across_is : c.from-across.result ≡ cross_product (p.x -ℤ a.x) (p.y -ℤ a.y) (b.x -ℤ a.x) (b.y -ℤ a.y) = c.from-across.ensures ∙ read64_is c.cross.result (search rules) ∙ cross_is in
    let way = c.between-to_point.result.in_range in
    let short_x = subst (λ (z : ℤ). unsigned_abs z < 2 ^ 32) c.between-to_point.ensures.east way.0 in
    let short_y = subst (λ (z : ℤ). unsigned_abs z < 2 ^ 32) c.between-to_point.ensures.north way.1 in
    let vx = plane_way a.x b.x c.requires.start_on_plane.0 c.requires.end_on_plane.0 in
    let vy = plane_way a.y b.y c.requires.start_on_plane.1 c.requires.end_on_plane.1 in
    let ahead = above_zero c.dot-along.result (search rules) c.if-along-le0.false in
    let inside = above c.dot-length.result c.dot-along.result (search rules) (search rules) c.if-along-length.false in
    let before = subst (λ (z : ℤ). c.dot-along.result <ℤ z) (sym length_same) inside in
    side_decided c.args.feet (p.x -ℤ a.x) (p.y -ℤ a.y) (b.x -ℤ a.x) (b.y -ℤ a.y) c.dot-along.result
    c.from-length.result c.from-across.result c.from.result c.from-2.result (omega arith) c.from.ensures
    c.from-2.ensures (short_x, short_y) vx vy along_is (length_same ∙ dot_is) across_is ahead before
    (search rules) (search rules)
