-- The nearest point of a segment, over whole numbers: what the code compares is what the definition says. From the
-- segment's start, (ux, uy) is the way to the point and (vx, vy) the way to the segment's end.
use Rattle.std.proofs.Common.{◌≡◌, ℕ, zero, suc, ◌+◌, ◌-◌, ◌*◌, ◌<◌, ◌≤◌, ◌↔◌, ap, subst, sym, ◌∙◌, arith, ℤ, pos, negsuc, ◌+ℤ◌, ◌-ℤ◌, ◌*ℤ◌, ◌≤ℤ◌, ◌<ℤ◌}
use Rattle.std.proofs.Math.IntN.{*ℤ_comm}
use Rattle.std.proofs.lemmas.Int.{ints}
use Rattle.pt_corridor.proofs.Whole.{square_of, square_is, times_assoc, times-add, times_middle, square_of_sum, square_of_difference}
use Rattle.pt_corridor.proofs.Squares.{start_nearest, end_nearest, line_nearest, foot_near}
use Rattle.pt_corridor.specs.Near.{squared_length}
use Rattle.pt_corridor.specs.Way.{dot_product, cross_product}
use lib.IntN.{nat_abs}

-- the square of n u - m v
abbrev pub part_square : ℤ → ℤ → ℤ → ℤ → ℕ → ℕ → ℤ
part_square ux uy vx vy m n = squared_length (pos n *ℤ ux -ℤ pos m *ℤ vx) (pos n *ℤ uy -ℤ pos m *ℤ vy)

-- some point of the segment is within this many feet
abbrev pub IsNearParts : ℕ → ℤ → ℤ → ℤ → ℤ → Type 0
IsNearParts feet ux uy vx vy =
    (m : ℕ) × (n : ℕ) × (0 < n) × (m ≤ n) × (part_square ux uy vx vy m n ≤ℤ pos ((feet * n) * (feet * n)))

-- the square of a length is a natural number
abbrev pub length_of : ℤ → ℤ → ℕ
length_of x y = square_of x + square_of y

pub length_is : (x y : ℤ) → squared_length x y ≡ pos (length_of x y)
length_is x y = omega (arith, ints, square_is x, square_is y)

-- the square of a product
product_square : (x y : ℤ) → (x *ℤ y) *ℤ (x *ℤ y) ≡ pos (square_of x * square_of y)
product_square x y = times_middle x y x y ∙ ap (λ k. k *ℤ (y *ℤ y)) (square_is x) ∙ ap (λ k. pos (square_of x) *ℤ k) (square_is y)

sum_of_coordinates : (a b e f g : ℤ) (i j : ℕ) → g ≡ e +ℤ f → a +ℤ e ≡ pos i → b +ℤ f ≡ pos j → a +ℤ b +ℤ g ≡ pos (i + j)
sum_of_coordinates a b e f g i j both east north = omega (arith, ints)

-- one coordinate of the square of n u - m v, multiplied out
coordinate : (x s : ℤ) (m n : ℕ) → let z = pos n *ℤ x -ℤ pos m *ℤ s in z *ℤ z +ℤ pos (2 * (n * m)) *ℤ (x *ℤ s) ≡ pos (n * n * square_of x + m * m * square_of s)
coordinate x s m n =
    let p = pos n *ℤ x in
    let q = pos m *ℤ s in
    let whole = square_of_difference p q in
    let pp : p *ℤ p ≡ pos (n * n * square_of x) = times_middle (pos n) x (pos n) x ∙ ap (λ k. pos (n * n) *ℤ k) (square_is x) in
    let qq : q *ℤ q ≡ pos (m * m * square_of s) = times_middle (pos m) s (pos m) s ∙ ap (λ k. pos (m * m) *ℤ k) (square_is s) in
    let pq : pos (2 * (n * m)) *ℤ (x *ℤ s) ≡ pos 2 *ℤ (p *ℤ q) =
    times_assoc (pos 2) (pos (n * m)) (x *ℤ s) ∙ ap (λ k. pos 2 *ℤ k) (sym (times_middle (pos n) x (pos m) s))
    in
    ap (λ k. (p -ℤ q) *ℤ (p -ℤ q) +ℤ k) pq ∙ whole ∙ ap (λ k. k +ℤ q *ℤ q) pp ∙ ap (λ k. pos (n * n * square_of x) +ℤ k) qq

-- the square of n u - m v, multiplied out
pub part_square_is : (ux uy vx vy : ℤ) (m n : ℕ) → part_square ux uy vx vy m n +ℤ pos (2 * (n * m)) *ℤ dot_product ux uy vx vy ≡ pos (n * n * length_of ux uy + m * m * length_of vx vy)
part_square_is ux uy vx vy m n =
    let zx = pos n *ℤ ux -ℤ pos m *ℤ vx in
    let zy = pos n *ℤ uy -ℤ pos m *ℤ vy in
    let twice = pos (2 * (n * m)) in
    let east = coordinate ux vx m n in
    let north = coordinate uy vy m n in
    let both = times-add twice (ux *ℤ vx) (uy *ℤ vy) in
    sum_of_coordinates (zx *ℤ zx) (zy *ℤ zy) (twice *ℤ (ux *ℤ vx)) (twice *ℤ (uy *ℤ vy)) (twice *ℤ dot_product ux uy vx vy) _ _ both east north ∙ ap pos (omega arith)

squares_add : (p q a b c d ab cd : ℤ) (i j e f g h : ℕ) → p ≡ a +ℤ b +ℤ pos 2 *ℤ ab → q +ℤ pos 2 *ℤ cd ≡ c +ℤ d
    → ab ≡ cd → a ≡ pos e → b ≡ pos f → c ≡ pos g → d ≡ pos h → p ≡ pos i → q ≡ pos j → i + j ≡ e + f + g + h
squares_add p q a b c d ab cd i j e f g h sum difference same a_is b_is c_is d_is p_is q_is = omega (arith, ints)

-- the squares of along and across make up the product of the squares
pub lagrange : (ux uy vx vy : ℤ) → square_of (dot_product ux uy vx vy) + square_of (cross_product ux uy vx vy) ≡ length_of ux uy * length_of vx vy
lagrange ux uy vx vy =
    let a = ux *ℤ vx in
    let b = uy *ℤ vy in
    let c = ux *ℤ vy in
    let d = uy *ℤ vx in
    let sum = square_of_sum a b in
    let difference = square_of_difference c d in
    let same : a *ℤ b ≡ c *ℤ d = times_middle ux vx uy vy ∙ ap (λ k. (ux *ℤ uy) *ℤ k) (*ℤ_comm vx vy) ∙ sym (times_middle ux vy uy vx) in
    squares_add (dot_product ux uy vx vy *ℤ dot_product ux uy vx vy)
    (cross_product ux uy vx vy *ℤ cross_product ux uy vx vy) (a *ℤ a) (b *ℤ b) (c *ℤ c) (d *ℤ d) (a *ℤ b) (c *ℤ d)
    _ _ _ _ _ _ sum difference same (product_square ux vx) (product_square uy vy) (product_square ux vy)
    (product_square uy vx) (square_is (dot_product ux uy vx vy)) (square_is (cross_product ux uy vx vy))
    ∙ omega arith

-- a sum with k times d, as natural numbers, for d at most 0 and for d at least 0
back : (near d : ℤ) (p k i : ℕ) → near ≡ pos p → near +ℤ pos k *ℤ d ≡ pos i → d ≤ℤ pos 0 → p ≡ i + k * nat_abs d
back near (pos zero) p k i near_is whole h = omega (arith, ints)
back near (pos (suc n)) p k i near_is whole h = absurd (omega (arith, ints))
back near (negsuc n) p k i near_is whole h = omega (arith, ints)

on : (near d : ℤ) (p k i : ℕ) → near ≡ pos p → near +ℤ pos k *ℤ d ≡ pos i → pos 0 ≤ℤ d → p + k * nat_abs d ≡ i
on near (pos n) p k i near_is whole h = omega (arith, ints)
on near (negsuc n) p k i near_is whole h = absurd (omega (arith, ints))

-- the length of n u - m v as a natural number
part_length : ℤ → ℤ → ℤ → ℤ → ℕ → ℕ → ℕ
part_length ux uy vx vy m n = length_of (pos n *ℤ ux -ℤ pos m *ℤ vx) (pos n *ℤ uy -ℤ pos m *ℤ vy)

part_length_is : (ux uy vx vy : ℤ) (m n : ℕ) → part_square ux uy vx vy m n ≡ pos (part_length ux uy vx vy m n)
unfolding part_length
part_length_is ux uy vx vy m n = length_is _ _

part_back : (ux uy vx vy : ℤ) (m n : ℕ) → dot_product ux uy vx vy ≤ℤ pos 0
    → part_length ux uy vx vy m n ≡ (n * n * length_of ux uy + m * m * length_of vx vy) + (2 * (n * m)) * nat_abs
    (dot_product ux uy vx vy)
part_back ux uy vx vy m n h =
    back (part_square ux uy vx vy m n) (dot_product ux uy vx vy) _ _ _ (part_length_is ux uy vx vy m n) (part_square_is ux uy vx vy m n) h

part_on : (ux uy vx vy : ℤ) (m n : ℕ) → pos 0 ≤ℤ dot_product ux uy vx vy
    → part_length ux uy vx vy m n + (2 * (n * m)) * nat_abs (dot_product ux uy vx vy) ≡ n * n * length_of ux uy + m *
    m * length_of vx vy
part_on ux uy vx vy m n h =
    on (part_square ux uy vx vy m n) (dot_product ux uy vx vy) _ _ _ (part_length_is ux uy vx vy m n) (part_square_is ux uy vx vy m n) h

-- bounds of squares, in whole and in natural numbers
within_out : (z : ℤ) (p r : ℕ) → z ≡ pos p → z ≤ℤ pos r → p ≤ r
within_out z p r e h = omega (arith, ints)

within_in : (z : ℤ) (p r : ℕ) → z ≡ pos p → p ≤ r → z ≤ℤ pos r
within_in z p r e h = omega (arith, ints)

-- u goes back from v: the start is the nearest
pub near_start : (feet : ℕ) (ux uy vx vy : ℤ) → dot_product ux uy vx vy ≤ℤ pos 0 → (squared_length ux uy ≤ℤ pos (feet * feet)) ↔ IsNearParts feet ux uy vx vy
near_start feet ux uy vx vy h = (
  λ close.
      let start = part_back ux uy vx vy 0 1 h in
      let bound = within_out _ _ _ (length_is ux uy) close in
      (0, 1, omega arith, omega arith, within_in _ _ _ (part_length_is ux uy vx vy 0 1) (omega arith)),
  λ near.
      let at_part = part_back ux uy vx vy near.0 near.1 h in
      let bound = within_out _ _ _ (part_length_is ux uy vx vy near.0 near.1) near.4 in
      within_in _ _ _ (length_is ux uy) (start_nearest _ _ (length_of vx vy) (nat_abs (dot_product ux uy vx vy)) near.0 near.1 feet (omega arith) near.2 bound),
)

-- the way from the end of v to the end of u
end_square : (ux uy vx vy : ℤ) → squared_length (ux -ℤ vx) (uy -ℤ vy) +ℤ pos 2 *ℤ dot_product ux uy vx vy ≡ pos (length_of ux uy + length_of vx vy)
end_square ux uy vx vy =
    let east = square_of_difference ux vx in
    let north = square_of_difference uy vy in
    let both = times-add (pos 2) (ux *ℤ vx) (uy *ℤ vy) in
    let east_is : (ux -ℤ vx) *ℤ (ux -ℤ vx) +ℤ pos 2 *ℤ (ux *ℤ vx) ≡ pos (square_of ux + square_of vx) =
    east ∙ ap (λ k. k +ℤ vx *ℤ vx) (square_is ux) ∙ ap (λ k. pos (square_of ux) +ℤ k) (square_is vx)
    in
    let north_is : (uy -ℤ vy) *ℤ (uy -ℤ vy) +ℤ pos 2 *ℤ (uy *ℤ vy) ≡ pos (square_of uy + square_of vy) =
    north ∙ ap (λ k. k +ℤ vy *ℤ vy) (square_is uy) ∙ ap (λ k. pos (square_of uy) +ℤ k) (square_is vy)
    in
    sum_of_coordinates ((ux -ℤ vx) *ℤ (ux -ℤ vx)) ((uy -ℤ vy) *ℤ (uy -ℤ vy)) (pos 2 *ℤ (ux *ℤ vx)) (pos 2 *ℤ (uy *ℤ vy)) (pos 2 *ℤ dot_product ux uy vx vy) _ _ both east_is north_is
    ∙ ap pos (omega arith)

-- d is at least the square of v
at_least : (z d : ℤ) (p : ℕ) → z ≡ pos p → z ≤ℤ d → (pos 0 ≤ℤ d) × (p ≤ nat_abs d)
at_least z (pos n) p e h = (omega (arith, ints), omega (arith, ints))
at_least z (negsuc n) p e h = absurd (omega (arith, ints))

-- d is above 0 and below the square of v
between : (z d : ℤ) (p : ℕ) → z ≡ pos p → pos 0 <ℤ d → d <ℤ z → (pos 0 ≤ℤ d) × (nat_abs d < p)
between z (pos n) p e after before = (omega (arith, ints), omega (arith, ints))
between z (negsuc n) p e after before = absurd (omega (arith, ints))

end_nearest_of : (near us vs ws along m n reach : ℕ) → near + (2 * (n * m)) * along ≡ n * n * us + m * m * vs
    → ws + 2 * along ≡ us + vs → vs ≤ along → m ≤ n → 0 < n → near ≤ (reach * n) * (reach * n) → ws ≤ reach * reach
end_nearest_of near us vs ws along m n reach e w far within positive h =
    let rest : m + (n - m) ≡ n = omega arith in
    let over : vs + (along - vs) ≡ along = omega arith in
    let P : ℕ → ℕ → Type 0 = λ a k.
    near + (2 * (k * m)) * a ≡ k * k * us + m * m * vs → ws + 2 * a ≡ us + vs → 0 < k → near ≤ (reach * k) * (reach * k) → ws ≤ reach * reach
    in
    subst (λ (a : ℕ). P a n) over (subst (λ (k : ℕ). P (vs + (along - vs)) k) rest (λ e' w' p' h'. end_nearest near us vs ws (along - vs) m (n - m) reach e' w' p' h')) e w positive h

-- u goes on past the end of v: the end is the nearest
pub near_end : (feet : ℕ) (ux uy vx vy : ℤ) → squared_length vx vy ≤ℤ dot_product ux uy vx vy → (squared_length (ux -ℤ vx) (uy -ℤ vy) ≤ℤ pos (feet * feet)) ↔ IsNearParts feet ux uy vx vy
near_end feet ux uy vx vy h =
    let d = dot_product ux uy vx vy in
    let far = at_least (squared_length vx vy) d (length_of vx vy) (length_is vx vy) h in
    let ws_is = length_is (ux -ℤ vx) (uy -ℤ vy) in
    let ending = on (squared_length (ux -ℤ vx) (uy -ℤ vy)) d (length_of (ux -ℤ vx) (uy -ℤ vy)) 2 (length_of ux uy + length_of vx vy) ws_is (end_square ux uy vx vy) far.0 in (
      λ close.
          let whole = part_on ux uy vx vy 1 1 far.0 in
          let bound = within_out _ _ _ ws_is close in
          (1, 1, omega arith, omega arith, within_in _ _ _ (part_length_is ux uy vx vy 1 1) (omega arith)),
      λ near.
          let at_part = part_on ux uy vx vy near.0 near.1 far.0 in
          let bound = within_out _ _ _ (part_length_is ux uy vx vy near.0 near.1) near.4 in
          within_in _ _ _ ws_is (end_nearest_of _ (length_of ux uy) (length_of vx vy) _ (nat_abs d) near.0 near.1 feet at_part ending far.1 near.3 near.2 bound),
    )

-- between the two: the foot of the perpendicular is the nearest
pub near_side : (feet : ℕ) (ux uy vx vy : ℤ) → pos 0 <ℤ dot_product ux uy vx vy
    → dot_product ux uy vx vy <ℤ squared_length vx vy →
    ((cross_product ux uy vx vy *ℤ cross_product ux uy vx vy) ≤ℤ (pos (feet * feet) *ℤ squared_length vx vy))
    ↔ IsNearParts feet ux uy vx vy
near_side feet ux uy vx vy after before =
    let d = dot_product ux uy vx vy in
    let c = cross_product ux uy vx vy in
    let along = nat_abs d in
    let us = length_of ux uy in
    let vs = length_of vx vy in
    let inner = between (squared_length vx vy) d vs (length_is vx vy) after before in
    let bound_is : pos (feet * feet) *ℤ squared_length vx vy ≡ pos (feet * feet * vs) = ap (λ k. pos (feet * feet) *ℤ k) (length_is vx vy) in (
      λ close.
          let at_foot = part_on ux uy vx vy along vs inner.0 in
          let bound = within_out (c *ℤ c) (square_of c) (feet * feet * vs) (square_is c) (subst (λ (k : ℤ). (c *ℤ c) ≤ℤ k) bound_is close) in
          (along, vs, omega arith, omega arith, within_in _ _ _ (part_length_is ux uy vx vy along vs) (foot_near _ us vs along (square_of c) feet at_foot (lagrange ux uy vx vy) bound)),
      λ near.
          let at_part = part_on ux uy vx vy near.0 near.1 inner.0 in
          let bound = within_out _ _ _ (part_length_is ux uy vx vy near.0 near.1) near.4 in
          let across = line_nearest _ us vs along (square_of c) near.0 near.1 feet at_part (lagrange ux uy vx vy) near.2 bound in
          subst (λ (k : ℤ). (c *ℤ c) ≤ℤ k) (sym bound_is) (within_in (c *ℤ c) (square_of c) _ (square_is c) across),
    )
