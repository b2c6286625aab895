-- Products of whole numbers, which `omega` does not multiply out.
use Rattle.std.proofs.Common.{◌≡◌, ℕ, ◌+◌, ◌*◌, ap, sym, refl, ◌∙◌, arith, ℤ, pos, negsuc, ◌+ℤ◌, ◌-ℤ◌, ◌*ℤ◌}
use Rattle.std.proofs.Math.IntN.{*ℤ_comm}
use Rattle.std.proofs.lemmas.Int.{ints}
use borrow.Author.Differences.{up, down, same_in, sum_is_lem, product_is}
use lib.IntN.{nat_abs}

-- a sum times a number, and a difference
pub add-times : (a b c : ℤ) → (a +ℤ b) *ℤ c ≡ a *ℤ c +ℤ b *ℤ c
add-times a b c =
    let above = ap (λ k. k * up c) (sum_is_lem a b) in
    let below = ap (λ k. k * down c) (sum_is_lem a b) in
    same_in _ _ (omega (arith, above, below, sum_is_lem (a *ℤ c) (b *ℤ c), product_is (a +ℤ b) c, product_is a c, product_is b c))

pub sub-times : (a b c : ℤ) → (a -ℤ b) *ℤ c ≡ a *ℤ c -ℤ b *ℤ c
sub-times a b c =
    let whole : up (a -ℤ b) + down a + up b ≡ down (a -ℤ b) + up a + down b = omega (arith, ints) in
    let above = ap (λ k. k * up c) whole in
    let below = ap (λ k. k * down c) whole in
    omega (arith, ints, above, below, product_is (a -ℤ b) c, product_is a c, product_is b c)

pub times-add : (a b c : ℤ) → a *ℤ (b +ℤ c) ≡ a *ℤ b +ℤ a *ℤ c
times-add a b c = *ℤ_comm a (b +ℤ c) ∙ add-times b c a ∙ ap (λ k. k +ℤ c *ℤ a) (*ℤ_comm b a) ∙ ap (λ k. a *ℤ b +ℤ k) (*ℤ_comm c a)

pub times_assoc : (a b c : ℤ) → (a *ℤ b) *ℤ c ≡ a *ℤ (b *ℤ c)
times_assoc a b c =
    let p = product_is a b in
    let q = product_is b c in
    let p1 = ap (λ k. k * up c) p.0 in
    let p2 = ap (λ k. k * down c) p.0 in
    let p3 = ap (λ k. k * up c) p.1 in
    let p4 = ap (λ k. k * down c) p.1 in
    let q1 = ap (λ k. up a * k) q.0 in
    let q2 = ap (λ k. down a * k) q.0 in
    let q3 = ap (λ k. up a * k) q.1 in
    let q4 = ap (λ k. down a * k) q.1 in
    same_in _ _ (omega (arith, product_is (a *ℤ b) c, product_is a (b *ℤ c), p1, p2, p3, p4, q1, q2, q3, q4))

-- a square is a natural number
abbrev pub square_of : ℤ → ℕ
square_of x = nat_abs x * nat_abs x

pub square_is : (x : ℤ) → x *ℤ x ≡ pos (square_of x)
square_is (pos n) = refl
square_is (negsuc n) = refl

-- factors trade places
pub times_middle : (a b c d : ℤ) → (a *ℤ b) *ℤ (c *ℤ d) ≡ (a *ℤ c) *ℤ (b *ℤ d)
times_middle a b c d =
    times_assoc a b (c *ℤ d) ∙ ap (λ k. a *ℤ k) (sym (times_assoc b c d) ∙ ap (λ k. k *ℤ d) (*ℤ_comm b c) ∙ times_assoc c b d) ∙ sym (times_assoc a c (b *ℤ d))

-- the squares of a sum and of a difference
pub square_of_sum : (a b : ℤ) → (a +ℤ b) *ℤ (a +ℤ b) ≡ a *ℤ a +ℤ b *ℤ b +ℤ pos 2 *ℤ (a *ℤ b)
square_of_sum a b =
    let outer = add-times a b (a +ℤ b) in
    let first : a *ℤ (a +ℤ b) ≡ a *ℤ a +ℤ b *ℤ a = *ℤ_comm a (a +ℤ b) ∙ add-times a b a in
    let second : b *ℤ (a +ℤ b) ≡ a *ℤ b +ℤ b *ℤ b = *ℤ_comm b (a +ℤ b) ∙ add-times a b b in
    let turn = *ℤ_comm b a in
    omega (arith, ints, outer, first, second, turn)

pub square_of_difference : (a b : ℤ) → (a -ℤ b) *ℤ (a -ℤ b) +ℤ pos 2 *ℤ (a *ℤ b) ≡ a *ℤ a +ℤ b *ℤ b
square_of_difference a b =
    let outer = sub-times a b (a -ℤ b) in
    let first : a *ℤ (a -ℤ b) ≡ a *ℤ a -ℤ b *ℤ a = *ℤ_comm a (a -ℤ b) ∙ sub-times a b a in
    let second : b *ℤ (a -ℤ b) ≡ a *ℤ b -ℤ b *ℤ b = *ℤ_comm b (a -ℤ b) ∙ sub-times a b b in
    let turn = *ℤ_comm b a in
    omega (arith, ints, outer, first, second, turn)
