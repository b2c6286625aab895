use Rattle.std.proofs.Common.{◌≡◌, ◌+◌, ◌-◌, ap, subst, sym, ◌∙◌, inl, inr, arith, refl, get_or, pos}
use Rattle.std.proofs.lemmas.Bool.{cases_lt}
use Rattle.std.proofs.lemmas.Option.{slice_get_within, get_or_from_slice_get}
use Rattle.pt_base_values.specs.declared.place.Point.{Point}
use Rattle.pt_corridor.specs.Near.{IsNearSegment}
use Rattle.pt_corridor.proofs.Box.{out-of-reach}
use Rattle.pt_corridor.proofs.near.is_near_line.Goals as goal
use Rattle.pt_corridor.proofs.near.is_near_line.Goals.{else-not-is_outside_box-via-then-not-is_outside_box+else-is_near_segment, else-not-is_outside_box-via-else-not-is_outside_box}

pub loop-end-preserved : goal.loop-end-preserved
loop-end-preserved c k below a b from to near =
    let line = c.args.line.now in
    let origin : Point = record { x = pos 0; y = pos 0 } in
    elim (cases_lt (k + 1) c.loop-end.end) [
      | inl earlier ↦ c.loop-end.invariant k earlier a b from to near
      | inr here ↦
          let low : c.loop-end.end - 1 ≡ k = omega arith in
          let high : c.loop-end.end ≡ k + 1 = omega arith in
          let start : get_or line (c.loop-end.end - 1) origin ≡ a = ap (λ i. get_or line i origin) low ∙ get_or_from_slice_get line k a origin from in
          let end : get_or line c.loop-end.end origin ≡ b = ap (λ i. get_or line i origin) high ∙ get_or_from_slice_get line (k + 1) b origin to in
          let near_read = subst (λ (z : Point). IsNearSegment c.args.feet c.args.point z
          (get_or line c.loop-end.end origin)) (sym start) (subst
          (λ (z : Point). IsNearSegment c.args.feet c.args.point a z) (sym end) near) in
          elim c.else-not-is_outside_box.branch [
            | else-not-is_outside_box-via-then-not-is_outside_box+else-is_near_segment w ↦ let wrong = w.if-is_near_segment.ensures.1 near_read in cc
            | else-not-is_outside_box-via-else-not-is_outside_box w ↦
                absurd (out-of-reach c.args.feet c.args.point (get_or line (c.loop-end.end - 1) origin) (get_or line c.loop-end.end origin) (w.if-not-is_outside_box.ensures.0 refl) near_read)
          ]
    ]

pub returns : goal.returns
returns c = (
  (λ wrong. cc),
  (λ near. absurd (c.loop-end.invariant near.2.0 (omega (arith, slice_get_within c.args.line.now (near.2.0 + 1) near.1 near.2.2)) near.0 near.1 near.2.1 near.2.2 near.3)),
)
