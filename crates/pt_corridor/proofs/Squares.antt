-- The nearest point of a segment by squares alone, over natural numbers. For two ways u and v from one point, `us` and
-- `vs` are the squares of their lengths, and `near` is the square of the length of n u - m v.
use Rattle.std.proofs.Common.{◌≡◌, ℕ, ◌+◌, ◌-◌, ◌*◌, ◌<◌, ◌≤◌, ap, subst, arith, ⊎_elim, mul-le-mul_right}
use Rattle.std.proofs.Math.Nat.{mul-pos, le_of_mul-le-mul_left}
use Rattle.std.proofs.lemmas.Bool.{cases_lt}

-- twice a product is at most the sum of the two squares
grown : (a more : ℕ) → 2 * (a * (a + more)) ≤ a * a + (a + more) * (a + more)
grown a more = omega arith

rising : (a b : ℕ) → a ≤ b → 2 * (a * b) ≤ a * a + b * b
rising a b h =
    let whole : a + (b - a) ≡ b = omega arith in
    subst (λ (k : ℕ). 2 * (a * k) ≤ a * a + k * k) whole (grown a (b - a))

pub two_products : (a b : ℕ) → 2 * (a * b) ≤ a * a + b * b
two_products a b = ⊎_elim (λ l. rising a b (omega arith)) (λ l. omega (arith, rising b a l)) (cases_lt a b)

-- u and v turn away from each other by `away`: no point of the segment is nearer than its start
pub start_nearest : (near us vs away m n reach : ℕ) → near ≡ n * n * us + 2 * (n * m) * away + m * m * vs → 0 < n → near ≤ (reach * n) * (reach * n) → us ≤ reach * reach
start_nearest near us vs away m n reach e positive h =
    le_of_mul-le-mul_left {m = us} {n = reach * reach} {k = n * n} (omega arith) (mul-pos positive positive)

-- the segment ends before u is passed: no point of it is nearer than its end, whose way to p has the square `ws`
pub end_nearest : (near us vs ws over m rest reach : ℕ)
    → near + 2 * ((m + rest) * m) * (vs + over) ≡ (m + rest) * (m + rest) * us + m * m * vs
    → ws + 2 * (vs + over) ≡ us + vs → 0 < m + rest → near ≤ (reach * (m + rest)) * (reach * (m + rest))
    → ws ≤ reach * reach
end_nearest near us vs ws over m rest reach e w positive h =
    let n = m + rest in
    let scaled = ap (λ k. n * n * k) w in
    le_of_mul-le-mul_left {m = ws} {n = reach * reach} {k = n * n} (omega arith) (mul-pos positive positive)

-- Between the ends, no point of the segment is nearer than the line through it. The line's distance times the segment's
-- length has the square `across`.
pub line_nearest : (near us vs along across m n reach : ℕ) → near + 2 * (n * m) * along ≡ n * n * us + m * m * vs
    → along * along + across ≡ us * vs → 0 < n → near ≤ (reach * n) * (reach * n) → across ≤ reach * reach * vs
line_nearest near us vs along across m n reach e lagrange positive h =
    let by_length = ap (λ k. k * vs) e in
    let by_parts = ap (λ k. n * n * k) lagrange in
    let bound = mul-le-mul_right vs h in
    let mean = two_products (n * along) (m * vs) in
    le_of_mul-le-mul_left {m = across} {n = reach * reach * vs} {k = n * n} (omega arith) (mul-pos positive positive)

-- and the foot of the perpendicular is that near
pub foot_near : (near us vs along across reach : ℕ)
    → near + 2 * (vs * along) * along ≡ vs * vs * us + along * along * vs → along * along + across ≡ us * vs
    → across ≤ reach * reach * vs → near ≤ (reach * vs) * (reach * vs)
foot_near near us vs along across reach e lagrange h =
    let by_length = ap (λ k. k * vs) lagrange in
    let bound = mul-le-mul_right vs h in
    omega arith
