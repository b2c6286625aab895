-- Vehicles and their versions: how many there are, and what a new version leaves of the others.
use Rattle.std.proofs.Common.{drop, ◌≡◌, ℕ, ◌+◌, ◌<◌, ◌≤◌, Bool, true, false, not, List, [], ◌∷◌, length, arith, cond, refl, sym, ap, ◌∙◌, subst, inl, inr}
use Rattle.std.specs.Prelude.{◌==◌, ◌&&◌, ◌||◌, nat_lt, filter}
use Rattle.std.proofs.lemmas.Bool.Decides.{nat_tests}
use Rattle.pt_base_values.specs.declared.vehicle.Vehicle.{Vehicle}
use Rattle.pt_base_records.specs.Keys.{pair_key}
use Rattle.pt_base_records.specs.Records.{put, take_away, is_within, Each}
use Rattle.pt_base_records.proofs.OrderLemmas.{compared}
use Rattle.pt_base_records.proofs.RecordLemmas.{put_past, put_over, put_before}
use Rattle.pt_base_records.proofs.TableLemmas.{same_or_other}
use Rattle.pt_desk_rules.specs.Fleet.{has_version, vehicle_count, versions_of, versions_before, versions_of_others}
use Rattle.pt_desk_rules.specs.Sound.{HasFirstDay, IsFleet}
use Rattle.pt_desk_rules.specs.State.{vehicle_key, versions_from}

-- a put record that fails a test changes nothing in what passes it
pub filter-put_other : {A : Type 0} (key : A → ℕ) (test : A → Bool) (new : A) (P : A → Type 0) → ((x : A) → P x → key x ≡ key new → test x ≡ false) → test new ≡ false → (xs : List A) → Each P xs
    → filter test (put key new xs) ≡ filter test xs
filter-put_other key test new P same out [] each = ap (λ b. cond b (new ∷ []) []) out
filter-put_other key test new P same out (x ∷ xs) each = elim (compared (key x) (key new)) [
  | inl lt ↦ rw (put_past key new x xs lt) (ap (λ ys. cond (test x) (x ∷ ys) ys) (filter-put_other key test new P same out xs each.1))
  | inr (inl is) ↦ rw (put_over key new x xs is)
      (ap (λ b. cond b (new ∷ filter test xs) (filter test xs)) out ∙ sym (ap (λ b. cond b (x ∷ filter test xs) (filter test xs)) (same x each.0 is)))
  | inr (inr gt) ↦ rw (put_before key new x xs gt) (ap (λ b. cond b (new ∷ filter test (x ∷ xs)) (filter test (x ∷ xs))) out)
]

put_step : {A : Type 0} (x : A) (ys zs : List A) (b : Bool) → length ys ≤ length zs + 1 → length (cond b (x ∷ ys) ys) ≤ length (cond b (x ∷ zs) zs) + 1
put_step x ys zs true le = omega arith
put_step x ys zs false le = le

one_more : {A : Type 0} (x : A) (ys : List A) (b : Bool) → length (cond b (x ∷ ys) ys) ≤ length ys + 1
one_more x ys true = omega arith
one_more x ys false = omega arith

no_fewer : {A : Type 0} (x : A) (ys : List A) (b : Bool) → length ys ≤ length (cond b (x ∷ ys) ys)
no_fewer x ys true = omega arith
no_fewer x ys false = omega arith

-- after a put, at most one more record passes a test
pub length-filter-put : {A : Type 0} (key : A → ℕ) (test : A → Bool) (new : A) (xs : List A) → length (filter test (put key new xs)) ≤ length (filter test xs) + 1
length-filter-put key test new [] = one_more new [] (test new)
length-filter-put key test new (x ∷ xs) = elim (compared (key x) (key new)) [
  | inl lt ↦ rw (put_past key new x xs lt) (put_step x (filter test (put key new xs)) (filter test xs) (test x) (length-filter-put key test new xs))
  | inr (inl is) ↦ rw (put_over key new x xs is)
      (let most = one_more new (filter test xs) (test new) in let least = no_fewer x (filter test xs) (test x) in omega arith)
  | inr (inr gt) ↦ rw (put_before key new x xs gt) (one_more new (filter test (x ∷ xs)) (test new))
]

taken_step : {A : Type 0} (test : A → Bool) (x : A) (ys xs : List A) (b : Bool) → (b ≡ false → test x ≡ false)
    → filter test ys ≡ filter test xs → filter test (cond b (x ∷ ys) ys) ≡ filter test (x ∷ xs)
taken_step test x ys xs true out same = ap (λ zs. cond (test x) (x ∷ zs) zs) same
taken_step test x ys xs false out same = same ∙ sym (ap (λ b. cond b (x ∷ filter test xs) (filter test xs)) (out refl))

-- if all removed records fail a test, the rest has the same records that pass it
pub filter-kept : {A : Type 0} (test kept : A → Bool) (P : A → Type 0) → ((x : A) → P x → kept x ≡ false → test x ≡ false) → (xs : List A) → Each P xs → filter test (filter kept xs) ≡ filter test xs
filter-kept test kept P out [] each = refl
filter-kept test kept P out (x ∷ xs) each = taken_step test x (filter kept xs) xs (kept x) (out x each.0) (filter-kept test kept P out xs each.1)

twice_step : {A : Type 0} (test : A → Bool) (x : A) (ys zs : List A) (kept passes wider : Bool) → test x ≡ passes → (passes ≡ true → kept ≡ true → wider ≡ true) → length (filter test ys) ≤ length zs
    → length (filter test (cond kept (x ∷ ys) ys)) ≤ length (cond wider (x ∷ zs) zs)
twice_step test x ys zs false passes true is gives le = omega arith
twice_step test x ys zs false passes false is gives le = le
twice_step test x ys zs true true true is gives le = subst (λ b. length (cond b (x ∷ filter test ys) (filter test ys)) ≤ length (x ∷ zs)) (sym is) (omega arith)
twice_step test x ys zs true true false is gives le = absurd (let no = gives refl refl in cc)
twice_step test x ys zs true false true is gives le = subst (λ b. length (cond b (x ∷ filter test ys) (filter test ys)) ≤ length (x ∷ zs)) (sym is) (omega arith)
twice_step test x ys zs true false false is gives le = subst (λ b. length (cond b (x ∷ filter test ys) (filter test ys)) ≤ length zs) (sym is) le

-- records that pass two tests are no more than those that pass a third test, which follows from the two
length-filter_twice : {A : Type 0} (test kept wider : A → Bool) (P : A → Type 0) → ((x : A) → P x → test x ≡ true → kept x ≡ true → wider x ≡ true) → (xs : List A) → Each P xs
    → length (filter test (filter kept xs)) ≤ length (filter wider xs)
length-filter_twice test kept wider P gives [] each = omega arith
length-filter_twice test kept wider P gives (x ∷ xs) each =
    twice_step test x (filter kept xs) (filter wider xs) (kept x) (test x) (wider x) refl (gives x each.0) (length-filter_twice test kept wider P gives xs each.1)

-- two versions with the same key are of the same vehicle
same_vehicle : (id first other day : ℕ) → first ≤ 47_481 → day ≤ 47_481 → pair_key id first ≡ pair_key other day → id ≡ other
same_vehicle id first other day low high same = omega arith

no_other : (id other : ℕ) → id ≡ other → not (id == other) ≡ false
no_other id other same = grind (arith, nat_tests)

is_no : (id other : ℕ) → (id ≡ other → ⊥) → (id == other) ≡ false
is_no id other differ = grind (arith, nat_tests)

is_other : (id other : ℕ) → (id ≡ other → ⊥) → not (id == other) ≡ true
is_other id other differ = grind (arith, nat_tests)

-- what is taken away is a version of this vehicle
taken_is_own : (id day other first : ℕ) → first ≤ 47_481 → not (is_within (pair_key other first) (versions_from id day)) ≡ false → other ≡ id
taken_is_own id day other first low taken = grind (arith, nat_tests)

-- a version of this vehicle that stays is of an earlier day
left_is_earlier : (id day other first : ℕ) → first ≤ 47_481 → (other == id) ≡ true → not (is_within (pair_key other first) (versions_from id day)) ≡ true → ((other == id) && nat_lt first day) ≡ true
left_is_earlier id day other first low same left = grind (arith, nat_tests)

abbrev pub fleet_with : Vehicle → List Vehicle → List Vehicle
fleet_with new vehicles = put vehicle_key new (take_away vehicle_key (versions_from new.id new.from_day) vehicles)

Each-left : {A : Type 0} (P : A → Type 0) (x : A) (ys : List A) (b : Bool) → P x → Each P ys → Each P (cond b (x ∷ ys) ys)
Each-left P x ys true first rest = (first, rest)
Each-left P x ys false first rest = rest

Each-kept : {A : Type 0} (P : A → Type 0) (kept : A → Bool) (xs : List A) → Each P xs → Each P (filter kept xs)
Each-kept P kept [] each = tt
Each-kept P kept (x ∷ xs) each = Each-left P x (filter kept xs) (kept x) each.0 (Each-kept P kept xs each.1)

same_first_day : (id first other day : ℕ) → first ≤ 47_481 → day ≤ 47_481 → pair_key id first ≡ pair_key other day
    → first ≡ day
same_first_day id first other day low high same = omega arith

taken_is_late : (id day other first : ℕ) → first ≤ 47_481
    → not (is_within (pair_key other first) (versions_from id day)) ≡ false → day ≤ first
taken_is_late id day other first low taken = grind (arith, nat_tests)

-- a new version changes nothing in what passes a test, if no later version of its vehicle passes it
pub kept_versions : (test : Vehicle → Bool) (new : Vehicle) (vehicles : List Vehicle) → HasFirstDay new
    → Each HasFirstDay vehicles
    → ((version : Vehicle) → version.id ≡ new.id → new.from_day ≤ version.from_day → test version ≡ false)
    → filter test (fleet_with new vehicles) ≡ filter test vehicles
kept_versions test new vehicles day days out =
    let kept = λ (version : Vehicle). not (is_within (vehicle_key version) (versions_from new.id new.from_day)) in
    filter-put_other vehicle_key test new HasFirstDay
    (λ x first same. out x (same_vehicle x.id x.from_day new.id new.from_day first.1 day.1 same)
    (let is = same_first_day x.id x.from_day new.id new.from_day first.1 day.1 same in omega arith))
    (out new refl (omega arith))
    (filter kept vehicles) (Each-kept HasFirstDay kept vehicles days)
    ∙ filter-kept test kept HasFirstDay
    (λ x first taken. out x (taken_is_own new.id new.from_day x.id x.from_day first.1 taken)
    (taken_is_late new.id new.from_day x.id x.from_day first.1 taken)) vehicles days

-- a new version leaves the versions of other vehicles
pub others_stay : (new : Vehicle) (vehicles : List Vehicle) → HasFirstDay new → Each HasFirstDay vehicles → versions_of_others new.id (fleet_with new vehicles) ≡ versions_of_others new.id vehicles
others_stay new vehicles day days =
    let kept = λ (version : Vehicle). not (is_within (vehicle_key version) (versions_from new.id new.from_day)) in
    filter-put_other vehicle_key (λ version. not (version.id == new.id)) new HasFirstDay
    (λ x first same. no_other x.id new.id (same_vehicle x.id x.from_day new.id new.from_day first.1 day.1 same)) (no_other new.id new.id refl)
    (filter kept vehicles) (Each-kept HasFirstDay kept vehicles days)
    ∙ filter-kept (λ version. not (version.id == new.id)) kept HasFirstDay
    (λ x first taken. no_other x.id new.id (taken_is_own new.id new.from_day x.id x.from_day first.1 taken)) vehicles days

version_step : (id other : ℕ) (x : Vehicle) (ys xs : List Vehicle) (b : Bool) → (b ≡ false → (x.id == other) ≡ false)
    → has_version other ys ≡ has_version other xs → has_version other (cond b (x ∷ ys) ys) ≡ has_version other
    (x ∷ xs)
version_step id other x ys xs true out same = ap (λ found. (x.id == other) || found) same
version_step id other x ys xs false out same = same ∙ sym (ap (λ b. b || has_version other xs) (out refl))

own_is_no_other : (id other x : ℕ) → (other ≡ id → ⊥) → not (x == id) ≡ false → (x == other) ≡ false
own_is_no_other id other x differ own = grind (arith, nat_tests)

-- another vehicle's versions are among the others
pub version_of_other : (id other : ℕ) → (other ≡ id → ⊥) → (vehicles : List Vehicle) → has_version other (versions_of_others id vehicles) ≡ has_version other vehicles
version_of_other id other differ [] = refl
version_of_other id other differ (x ∷ xs) =
    version_step id other x (versions_of_others id xs) xs (not (x.id == id)) (own_is_no_other id other x.id differ) (version_of_other id other differ xs)

own_first : (new : Vehicle) (xs : List Vehicle) → has_version new.id (new ∷ xs) ≡ true
own_first new xs = grind (arith, nat_tests)

any_later : (a b : Bool) → b ≡ true → (a || b) ≡ true
any_later true b is = refl
any_later false b is = is

own_put : (new : Vehicle) (xs : List Vehicle) → has_version new.id (put vehicle_key new xs) ≡ true
own_put new [] = own_first new []
own_put new (x ∷ xs) = elim (compared (vehicle_key x) (vehicle_key new)) [
  | inl lt ↦ rw (put_past vehicle_key new x xs lt) (any_later (x.id == new.id) (has_version new.id (put vehicle_key new xs)) (own_put new xs))
  | inr (inl is) ↦ rw (put_over vehicle_key new x xs is) (own_first new xs)
  | inr (inr gt) ↦ rw (put_before vehicle_key new x xs gt) (own_first new (x ∷ xs))
]

-- a vehicle that exists still exists after a new version
pub version_stays : (new : Vehicle) (id : ℕ) (vehicles : List Vehicle) → HasFirstDay new → Each HasFirstDay vehicles → has_version id vehicles ≡ true → has_version id (fleet_with new vehicles) ≡ true
version_stays new id vehicles day days there = elim (same_or_other id new.id) [
  | inl same ↦ subst (λ n. has_version n (fleet_with new vehicles) ≡ true) (sym same) (own_put new (take_away vehicle_key (versions_from new.id new.from_day) vehicles))
  | inr other ↦
      sym (version_of_other new.id id other (fleet_with new vehicles)) ∙ ap (has_version id) (others_stay new vehicles day days)
      ∙ version_of_other new.id id other vehicles ∙ there
]

none_step : (id : ℕ) (x : Vehicle) (xs : List Vehicle) (b : Bool) → (x.id == id) ≡ b → (b || has_version id xs) ≡ false → (has_version id xs ≡ false → versions_of_others id xs ≡ xs)
    → versions_of_others id (x ∷ xs) ≡ x ∷ xs
none_step id x xs true is none rest = absurd (cc)
none_step id x xs false is none rest = ap (λ c. cond (not c) (x ∷ versions_of_others id xs) (versions_of_others id xs)) is ∙ ap (λ ys. x ∷ ys) (rest none)

no_version : (id : ℕ) (vehicles : List Vehicle) → has_version id vehicles ≡ false → versions_of_others id vehicles ≡ vehicles
no_version id [] none = refl
no_version id (x ∷ xs) none = none_step id x xs (x.id == id) refl none (no_version id xs)

-- a version of another vehicle counts if no later one follows
pub others_counted : (id : ℕ) (x : Vehicle) (xs : List Vehicle) → (x.id ≡ id → ⊥)
    → vehicle_count (versions_of_others id (x ∷ xs)) ≡ cond (has_version x.id xs) (vehicle_count (versions_of_others id xs)) (vehicle_count (versions_of_others id xs) + 1)
others_counted id x xs differ =
    ap (λ b. vehicle_count (cond b (x ∷ versions_of_others id xs) (versions_of_others id xs))) (is_other x.id id differ)
    ∙ ap (λ b. cond b (vehicle_count (versions_of_others id xs)) (vehicle_count (versions_of_others id xs) + 1)) (version_of_other id x.id differ xs)

pub others_skipped : (id : ℕ) (x : Vehicle) (xs : List Vehicle) → x.id ≡ id → vehicle_count (versions_of_others id (x ∷ xs)) ≡ vehicle_count (versions_of_others id xs)
others_skipped id x xs same = ap (λ b. vehicle_count (cond b (x ∷ versions_of_others id xs) (versions_of_others id xs))) (no_other x.id id same)

own_step : (n m : ℕ) (b : Bool) → n ≤ m + 1 → (b ≡ false → n ≡ m) → cond b n (n + 1) ≤ m + 1
own_step n m true le none = le
own_step n m false le none = let same = none refl in omega arith

other_step : (n m : ℕ) (b : Bool) → n ≤ m + 1 → cond b n (n + 1) ≤ cond b m (m + 1) + 1
other_step n m true le = le
other_step n m false le = omega arith

-- there is at most one vehicle more than the others
pub one_beside : (id : ℕ) (vehicles : List Vehicle) → vehicle_count vehicles ≤ vehicle_count (versions_of_others id vehicles) + 1
one_beside id [] = omega arith
one_beside id (x ∷ xs) =
    let rest = one_beside id xs in
    elim (same_or_other x.id id) [
      | inl same ↦ rw (others_skipped id x xs same)
          (own_step (vehicle_count xs) (vehicle_count (versions_of_others id xs)) (has_version x.id xs) rest
          (λ none. sym (ap vehicle_count (no_version id xs (ap (λ n. has_version n xs) (sym same) ∙ none)))))
      | inr other ↦ rw (others_counted id x xs other) (other_step (vehicle_count xs) (vehicle_count (versions_of_others id xs)) (has_version x.id xs) rest)
    ]

-- a new version, where there is room for it
pub fleet_stays : (new : Vehicle) (vehicles : List Vehicle) → HasFirstDay new → Each HasFirstDay vehicles → IsFleet vehicles
    → length (versions_before new.id new.from_day vehicles) < 20 → vehicle_count (versions_of_others new.id vehicles) < 50 → IsFleet (fleet_with new vehicles)
fleet_stays new vehicles day days fleet room room' =
    let kept = λ (version : Vehicle). not (is_within (vehicle_key version) (versions_from new.id new.from_day)) in
    let left = filter kept vehicles in
    let beside = one_beside new.id (fleet_with new vehicles) in
    let others = ap vehicle_count (others_stay new vehicles day days) in
    record {
      few = omega arith;
      few_versions = λ id. elim (same_or_other id new.id) [
        | inl same ↦ subst (λ n. length (versions_of n (fleet_with new vehicles)) ≤ 20) (sym same)
            (let more = length-filter-put vehicle_key (λ version. version.id == new.id) new left in
            let earlier = length-filter_twice (λ version. version.id == new.id) kept (λ version. (version.id == new.id) && nat_lt version.from_day new.from_day) HasFirstDay
            (λ x first own stays. left_is_earlier new.id new.from_day x.id x.from_day first.1 own stays) vehicles days in
            omega arith)
        | inr other ↦
            let same = filter-put_other vehicle_key (λ version. version.id == id) new HasFirstDay
            (λ x first is. is_no x.id id (λ own. other (sym own ∙ same_vehicle x.id x.from_day new.id new.from_day first.1 day.1 is))) (is_no new.id id (λ own. other (sym own)))
            left (Each-kept HasFirstDay kept vehicles days) in
            let fewer = length-filter_twice (λ version. version.id == id) kept (λ version. version.id == id) HasFirstDay (λ x first own stays. own) vehicles days in
            let most = fleet.few_versions id in
            let now = ap length same in
            omega arith
      ];
    }

counted_step : (n : ℕ) (own there : Bool) → cond (not own && not there) (n + 1) n ≡ cond own n (cond there n (n + 1))
counted_step n true there = refl
counted_step n false true = refl
counted_step n false false = refl

by_own : (id : ℕ) (x : Vehicle) (rest : List Vehicle) (own : Bool) → (x.id == id) ≡ own → (own ≡ true → x.id ≡ id) → (own ≡ false → x.id ≡ id → ⊥)
    → vehicle_count (versions_of_others id (x ∷ rest)) ≡ cond own (vehicle_count (versions_of_others id rest))
    (cond (has_version x.id rest) (vehicle_count (versions_of_others id rest))
    (vehicle_count (versions_of_others id rest) + 1))
by_own id x rest true is same other = others_skipped id x rest (same refl)
by_own id x rest false is same other = others_counted id x rest (other refl)

same_number : (a b : ℕ) → (a == b) ≡ true → a ≡ b
same_number a b is = grind (arith, nat_tests)

other_number : (a b : ℕ) → (a == b) ≡ false → a ≡ b → ⊥
other_number a b is same = absurd (grind (arith, nat_tests))

-- one version more is counted, or not
pub counted_more : (id at count total : ℕ) (x : Vehicle) (xs rest : List Vehicle) → drop at xs ≡ x ∷ rest → count + vehicle_count (versions_of_others id (drop at xs)) ≡ total
    → cond (not (x.id == id) && not (has_version x.id rest)) (count + 1) count + vehicle_count (versions_of_others id rest) ≡ total
counted_more id at count total x xs rest is before =
    let n = vehicle_count (versions_of_others id rest) in
    let more = ap (λ ys. vehicle_count (versions_of_others id ys)) is ∙ by_own id x rest (x.id == id) refl (same_number x.id id) (other_number x.id id)
    ∙ sym (counted_step n (x.id == id) (has_version x.id rest)) in
    moved count n total (not (x.id == id) && not (has_version x.id rest)) (sym (ap (λ m. count + m) more) ∙ before)
  where
    moved : (count n total : ℕ) (b : Bool) → count + cond b (n + 1) n ≡ total → cond b (count + 1) count + n ≡ total
    moved count n total true is = omega arith
    moved count n total false is = is

pub counts : (n more same : ℕ) (b : Bool) → b ≡ true → n ≡ more → n ≡ cond b more same
counts n more same true is by = by
counts n more same false is by = absurd (cc)

pub stays_counted : (n more same : ℕ) (b : Bool) → b ≡ false → n ≡ same → n ≡ cond b more same
stays_counted n more same true is by = absurd (cc)
stays_counted n more same false is by = by

pub counted_on : (id at before after total : ℕ) (x : Vehicle) (xs rest later : List Vehicle) (b : Bool) → drop at xs ≡ x ∷ rest → later ≡ rest → b ≡ (not (x.id == id) && not (has_version x.id later))
    → after ≡ cond b (before + 1) before → before + vehicle_count (versions_of_others id (drop at xs)) ≡ total → after + vehicle_count (versions_of_others id rest) ≡ total
counted_on id at before after total x xs rest later b is same by counted sum =
    ap (λ n. n + vehicle_count (versions_of_others id rest)) (counted ∙ ap (λ t. cond t (before + 1) before) (by ∙ ap (λ ys. not (x.id == id) && not (has_version x.id ys)) same))
    ∙ counted_more id at before total x xs rest is sum
