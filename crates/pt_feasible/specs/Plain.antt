-- Driving times on plains, for tests: a vehicle drives one unit east or north, or both at once, in a minute.
use Rattle.std.proofs.Common.{◌≡◌, ℕ, ◌+◌, ◌-◌, ◌/◌, ◌%◌, ◌≤◌, max, Bool, true, false, Option, Some, None, IfSome}
use Rattle.std.proofs.Common.{IsSomeAnd, arith, refl, ap, ◌∙◌}
use Rattle.std.proofs.lemmas.Bool.{eqb-true, eq-eqb}
use Rattle.std.proofs.lemmas.Option.{same_Some, none-some}
use Rattle.std.specs.Prelude.{if◌then◌else◌, ◌==◌}
use Rattle.pt_base_values.specs.Ranges.{last_minute}

-- how far apart two coordinates are
abbrev pub apart : ℕ → ℕ → ℕ
apart x y = (x - y) + (y - x)

-- the coordinates in a place's number, which ends in three digits east and three digits north
abbrev pub east : ℕ → ℕ
east place = place / 1000 % 1000

abbrev pub north : ℕ → ℕ
north place = place % 1000

-- the minutes across the plain
abbrev pub across : ℕ → ℕ → ℕ
across a b = max (apart (east a) (east b)) (apart (north a) (north b))

-- there is no way between two plains; the digits before those six number the plain
abbrev pub plain_minutes : ℕ → ℕ → Option ℕ
plain_minutes a b = if a / 1_000_000 == b / 1_000_000 then Some (across a b) else None

apart-triangle : (x y z u v w : ℕ) →
    max (apart x z) (apart u w) ≤ max (apart x y) (apart u v) + max (apart y z) (apart v w)
apart-triangle x y z u v w = omega arith

pub across-self : (a : ℕ) → across a a ≡ 0
across-self a = omega arith

-- coordinates have three digits
pub across-within : (a b : ℕ) → across a b ≤ last_minute
across-within a b = omega arith

pub across-triangle : (a b c : ℕ) → across a c ≤ across a b + across b c
across-triangle a b c = apart-triangle (east a) (east b) (east c) (north a) (north b) (north c)

-- it takes no time to stay
pub plain-stays : (a : ℕ) → plain_minutes a a ≡ Some 0
plain-stays a = rw (eq-eqb (a / 1_000_000) (a / 1_000_000) refl) (ap Some (across-self a))

-- if there is a way, it takes the minutes across
some-across : (same : Bool) (a b m : ℕ) → (if same then Some (across a b) else None) ≡ Some m →
    (same ≡ true) × (across a b ≡ m)
some-across true a b m way = (refl, same_Some (across a b) m way)
some-across false a b m way = absurd (none-some m way)

pub plain-within_a_day : (a b : ℕ) → IfSome (plain_minutes a b) (λ t. t ≤ last_minute)
plain-within_a_day a b =
    elim (a / 1_000_000 == b / 1_000_000)
    as (λ same. IfSome (if same then Some (across a b) else None) (λ t. t ≤ last_minute))
    [ true ↦ across-within a b | false ↦ tt ]

-- a way over a third place is no shorter
pub plain-triangle : (a b c m n : ℕ) → plain_minutes a b ≡ Some m → plain_minutes b c ≡ Some n → m + n ≤ last_minute →
    IsSomeAnd (plain_minutes a c) (λ t. t ≤ m + n)
plain-triangle a b c m n first second within =
    let one = some-across (a / 1_000_000 == b / 1_000_000) a b m first in
    let two = some-across (b / 1_000_000 == c / 1_000_000) b c n second in
    let same : a / 1_000_000 ≡ c / 1_000_000 = eqb-true _ _ one.0 ∙ eqb-true _ _ two.0 in
    rw (eq-eqb (a / 1_000_000) (c / 1_000_000) same) (omega (arith, across-triangle a b c, one.1, two.1))
