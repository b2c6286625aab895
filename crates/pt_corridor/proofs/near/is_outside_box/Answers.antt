use Rattle.std.proofs.Common.{inl, inr, rules, FitsSigned}
use Rattle.std.proofs.lemmas.Bool.{false≢true}
use Rattle.std.proofs.lemmas.Int.{to_z-of_z}
use Rattle.pt_corridor.proofs.near.is_outside_box.Goals as goal
use mir.Syntax.{w32}

pub returns-then-is_beyond : goal.returns-then-is_beyond
returns-then-is_beyond c =
    let p : FitsSigned w32 c.args.point.x = search rules in
    let a : FitsSigned w32 c.args.start.x = search rules in
    let b : FitsSigned w32 c.args.end.x = search rules in
    let east = simp to_z-of_z at c.is_beyond.ensures in
    ((λ beyond. inl (east.0 beyond)), (λ _. c.if-is_beyond.true))

pub returns-else-is_beyond : goal.returns-else-is_beyond
returns-else-is_beyond c =
    let p : FitsSigned w32 c.args.point.x = search rules in
    let a : FitsSigned w32 c.args.start.x = search rules in
    let b : FitsSigned w32 c.args.end.x = search rules in
    let q : FitsSigned w32 c.args.point.y = search rules in
    let d : FitsSigned w32 c.args.start.y = search rules in
    let e : FitsSigned w32 c.args.end.y = search rules in
    let east = simp to_z-of_z at c.if-is_beyond.ensures in
    let north = simp to_z-of_z at c.is_beyond-else-is_beyond.ensures in (
      (λ beyond. inr (north.0 beyond)),
      (λ outside. elim outside [ inl beyond ↦ absurd (false≢true (east.1 beyond)) | inr beyond ↦ north.1 beyond ]),
    )
