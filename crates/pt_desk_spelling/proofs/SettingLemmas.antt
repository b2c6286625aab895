-- Different callers, policies, places, routes, vehicles and rows of travel tables have different bytes.
use mathlib.Core.HLevel.{is_prop→PathP}
use Rattle.std.proofs.Common.{◌≡◌, ℕ, zero, suc, ◌<◌, ◌≤◌, List, length, [], ◌∷◌, ◌++◌, get_or, refl, sym, ap, ◌∙◌, append_assoc, arith}
use Rattle.std.proofs.lemmas.Bool.{cond-false, ne_eqb}
use Rattle.std.proofs.Props.{props}
use Rattle.std.specs.Prelude.{ℤ, ◌==◌}
use Rattle.std.specs.Int.{IsInRange}
use Rattle.pt_base_values.specs.Place.{IsOnPlane}
use Rattle.pt_base_values.specs.declared.place.Place.{Place}
use Rattle.pt_base_values.specs.declared.place.Point.{Point}
use Rattle.pt_base_values.specs.declared.policy.Policy.{Policy}
use Rattle.pt_base_values.specs.declared.vehicle.Vehicle.{Vehicle}
use Rattle.pt_corridor.specs.Route.{FixedRoute}
use Rattle.pt_desk_requests.specs.declared.caller.Caller.{Caller}
use Rattle.pt_desk_requests.specs.declared.caller.Role.{Role}
use Rattle.pt_desk_requests.specs.declared.caller.Role.TheVariants.{Rider, Clerk, Examiner, Officer, Dispatcher, Driver, Admin}
use Rattle.pt_travel.specs.Chain.{Row}
use Rattle.pt_desk_spelling.specs.Fields.{number_bytes, numbers_bytes, truth_bytes, days_byte, list_bytes}
use Rattle.pt_desk_spelling.specs.Ranges.{IsWord, IsRole, IsCaller, IsRoute, IsVehicle, IsRow}
use Rattle.pt_desk_spelling.specs.Replies.{IsId}
use Rattle.pt_desk_spelling.specs.Requests.{role_number, subject_of, caller_bytes, policy_bytes, point_bytes, place_bytes, route_bytes, chairs_bytes, vehicle_bytes, row_bytes}
use Rattle.pt_desk_spelling.proofs.FieldLemmas.{four_parts, five_parts, day-word, minute-word, byte-then, length-number}
use Rattle.pt_desk_spelling.proofs.FieldLemmas.{number-same, number-then, numbers-then, numbers-same, list-then}
use Rattle.pt_desk_spelling.proofs.FieldLemmas.{signed-then, truth-then, days-same}

pub at_most-prop : (most n : ℕ) → IsProp (n ≤ most)
at_most-prop most n = hlevel props

pub range-prop : (least most n : ℕ) → IsProp (IsInRange least most n)
range-prop least most n = hlevel props

pub plane-prop : (x y : ℤ) → IsProp (IsOnPlane x y)
plane-prop x y = hlevel props

-- ---- callers

pub role-same : (one other : Role) → role_number one ≡ role_number other → subject_of one ≡ subject_of other → one ≡ other
role-same (Rider a) (Rider b) kind subject = ap (λ (n : ℕ). Rider n) subject
role-same Clerk Clerk kind subject = refl
role-same Examiner Examiner kind subject = refl
role-same Officer Officer kind subject = refl
role-same Dispatcher Dispatcher kind subject = refl
role-same (Driver a) (Driver b) kind subject = ap (λ (n : ℕ). Driver n) subject
role-same Admin Admin kind subject = refl
role-same one other kind subject = absurd (omega arith)

pub subject-word : (role : Role) → IsRole role → IsWord (subject_of role)
subject-word (Rider a) fits = fits.1
subject-word Clerk fits = omega arith
subject-word Examiner fits = omega arith
subject-word Officer fits = omega arith
subject-word Dispatcher fits = omega arith
subject-word (Driver a) fits = fits.1
subject-word Admin fits = omega arith

pub caller-same : (one other : Caller) → IsCaller one → IsCaller other → caller_bytes one ≡ caller_bytes other → one ≡ other
caller-same one other ones others e =
    let grouped : number_bytes one.id ++ (role_number one.role ∷ (number_bytes (subject_of one.role) ++ one.digest)) ≡
    number_bytes other.id ++ (role_number other.role ∷ (number_bytes (subject_of other.role) ++ other.digest))
    = simp append_assoc at e in
    let id = number-then one.id other.id _ _ ones.id.1 others.id.1 grouped in
    let kind = byte-then (role_number one.role) (role_number other.role) _ _ id.1 in
    let subject = number-then (subject_of one.role) (subject_of other.role) _ _ (subject-word one.role ones.role) (subject-word other.role others.role) kind.1 in
    let role = role-same one.role other.role kind.0 subject.0 in
    λ i. record { id = id.0 i; role = role i; digest = subject.1 i }

-- ---- policies

pub settled : Policy → List ℕ
settled policy =
    policy.base ∷ policy.transfer ∷ policy.fare ∷ policy.service ∷ policy.extra_ride ∷ policy.min_missed ∷ policy.percent ∷ policy.span_days ∷ []

pub policy-from : (a b : Policy) → settled a ≡ settled b → a ≡ b
unfolding settled
policy-from a b same = λ i. record {
  base = get_or (same i) 0 0;
  transfer = get_or (same i) 1 0;
  fare = get_or (same i) 2 0;
  service = get_or (same i) 3 0;
  extra_ride = get_or (same i) 4 0;
  min_missed = get_or (same i) 5 0;
  percent = get_or (same i) 6 0;
  span_days = get_or (same i) 7 0;
  base_in_range = is_prop→PathP (λ j. get_or (same j) 0 0 ≤ 100_000) (λ j. at_most-prop _ _) a.base_in_range b.base_in_range i;
  transfer_in_range = is_prop→PathP (λ j. get_or (same j) 1 0 ≤ 100_000) (λ j. at_most-prop _ _) a.transfer_in_range b.transfer_in_range i;
  fare_in_range = is_prop→PathP (λ j. get_or (same j) 2 0 ≤ 100_000) (λ j. at_most-prop _ _) a.fare_in_range b.fare_in_range i;
  service_in_range = is_prop→PathP (λ j. get_or (same j) 3 0 ≤ 30) (λ j. at_most-prop _ _) a.service_in_range b.service_in_range i;
  extra_ride_in_range = is_prop→PathP (λ j. get_or (same j) 4 0 ≤ 240) (λ j. at_most-prop _ _) a.extra_ride_in_range b.extra_ride_in_range i;
  min_missed_in_range = is_prop→PathP (λ j. IsInRange 1 1_000 (get_or (same j) 5 0)) (λ j. range-prop _ _ _) a.min_missed_in_range b.min_missed_in_range i;
  percent_in_range = is_prop→PathP (λ j. IsInRange 1 100 (get_or (same j) 6 0)) (λ j. range-prop _ _ _) a.percent_in_range b.percent_in_range i;
  span_days_in_range = is_prop→PathP (λ j. IsInRange 1 366 (get_or (same j) 7 0)) (λ j. range-prop _ _ _) a.span_days_in_range b.span_days_in_range i;
}

pub most-word : (most n : ℕ) → n ≤ most → most < 1_000_000 → IsWord n
most-word most n low high = omega arith

-- a policy's numbers are in their ranges
pub policy-words : (policy : Policy) → IsWord policy.base × IsWord policy.transfer × IsWord policy.fare
    × IsWord policy.service × IsWord policy.extra_ride × IsWord policy.min_missed × IsWord policy.percent
    × IsWord policy.span_days
policy-words policy =
    let missed = policy.min_missed_in_range.1 in
    let percent = policy.percent_in_range.1 in
    let span = policy.span_days_in_range.1 in (
      most-word 100_000 _ policy.base_in_range (omega arith),
      most-word 100_000 _ policy.transfer_in_range
          (omega arith),
      most-word 100_000 _ policy.fare_in_range (omega arith),
      most-word 30 _ policy.service_in_range
          (omega arith),
      most-word 240 _ policy.extra_ride_in_range (omega arith),
      most-word 1_000 _ missed
          (omega arith),
      most-word 100 _ percent (omega arith),
      most-word 366 _ span (omega arith),
    )

pub policy-same : (one other : Policy) → policy_bytes one ≡ policy_bytes other → one ≡ other
unfolding settled
policy-same one other e =
    let a = policy-words one in
    let b = policy-words other in
    policy-from one other
    (numbers-same (settled one) (settled other) refl (a.0, (a.1, (a.2, (a.3, (a.4, (a.5, (a.6, (a.7, tt)))))))) (b.0, (b.1, (b.2, (b.3, (b.4, (b.5, (b.6, (b.7, tt)))))))) e)

-- ---- points and places

pub point-then : (one other : Point) (x y : List ℕ) → IsOnPlane one.x one.y → IsOnPlane other.x other.y → point_bytes one ++ x ≡ point_bytes other ++ y → (one ≡ other) × (x ≡ y)
point-then one other x y ones others e =
    let grouped = simp append_assoc at e in
    let east = signed-then one.x other.x _ _ ones.0 others.0 grouped in
    let north = signed-then one.y other.y x y ones.1 others.1 east.1 in
    (λ i. record { x = east.0 i; y = north.0 i }, north.1)

pub place-from : (a b : Place) → a.id ≡ b.id → a.at ≡ b.at → a.core ≡ b.core → a ≡ b
place-from a b id point core = λ i. record {
  id = id i;
  at = point i;
  core = core i;
  on_plane = is_prop→PathP (λ j. IsOnPlane (point j).x (point j).y) (λ j. plane-prop _ _) a.on_plane b.on_plane i;
}

pub place-same : (one other : Place) → IsId one.id → IsId other.id → place_bytes one ≡ place_bytes other → one ≡ other
place-same one other ones others e =
    let grouped : number_bytes one.id ++ (point_bytes one.at ++ truth_bytes one.core) ≡ number_bytes other.id ++
    (point_bytes other.at ++ truth_bytes other.core) = sym
    (append_assoc (number_bytes one.id) (point_bytes one.at) (truth_bytes one.core)) ∙ e
    ∙ append_assoc (number_bytes other.id) (point_bytes other.at) (truth_bytes other.core) in
    let id = number-then one.id other.id _ _ ones.1 others.1 grouped in
    let point = point-then one.at other.at (truth_bytes one.core) (truth_bytes other.core) one.on_plane other.on_plane id.1 in
    let core = truth-then one.core other.core [] [] (ap (λ (t : List ℕ). t ++ []) point.1) in
    place-from one other id.0 point.0 core.0

-- ---- routes

pub route-same : (one other : FixedRoute) → IsRoute one → IsRoute other → route_bytes one ≡ route_bytes other → one ≡ other
route-same one other ones others e =
    let front : FixedRoute → List ℕ = λ r. numbers_bytes (r.id ∷ r.width ∷ []) in
    let line : FixedRoute → List ℕ = λ r. list_bytes point_bytes r.points in
    let hours : FixedRoute → List ℕ = λ r. numbers_bytes (r.first ∷ r.last ∷ []) in
    let parts : (r : FixedRoute) → route_bytes r ≡ front r ++
    (line r ++ (truth_bytes r.accessible ++ (days_byte r.days ∷ hours r))) = λ r. five_parts (front r)
    (line r) (truth_bytes r.accessible) (days_byte r.days ∷ []) (hours r) in
    let grouped : front one ++ (line one ++ (truth_bytes one.accessible ++ (days_byte one.days ∷ hours one))) ≡ front
    other ++ (line other ++ (truth_bytes other.accessible ++ (days_byte other.days ∷ hours other))) = sym
    (parts one) ∙ e ∙ parts other in
    let ends = numbers-then (one.id ∷ one.width ∷ []) (other.id ∷ other.width ∷ []) _ _ refl
    (ones.id.1, (let most = ones.fixed.width.1 in omega arith, tt))
    (others.id.1, (let most = others.fixed.width.1 in omega arith, tt)) grouped in
    let points = list-then (λ (p : Point). IsOnPlane p.x p.y) point_bytes point-then one.points other.points _ _
    (let most = ones.fixed.points.1 in omega arith) (let most = others.fixed.points.1 in omega arith)
    ones.fixed.on_plane others.fixed.on_plane ends.1 in
    let accessible = truth-then one.accessible other.accessible _ _ points.1 in
    let days = byte-then (days_byte one.days) (days_byte other.days) _ _ accessible.1 in
    let minutes = numbers-same (one.first ∷ one.last ∷ []) (other.first ∷ other.last ∷ []) refl (
      let order = ones.fixed.hours in let last = ones.last in omega arith,
      (minute-word one.last ones.last, tt),
    ) (
      let order = others.fixed.hours in let last = others.last in omega
          arith,
      (minute-word other.last others.last, tt),
    ) days.1 in
    let week = days-same one.days other.days ones.days others.days days.0 in
    λ i. record {
      id = get_or (ends.0 i) 0 0;
      width = get_or (ends.0 i) 1 0;
      points = points.0 i;
      accessible =
          accessible.0 i;
      days = week i;
      first = get_or (minutes i) 0 0;
      last = get_or (minutes i) 1 0;
    }

-- ---- vehicles

pub vehicle-from : (a b : Vehicle) → (a.id ∷ a.from_day ∷ []) ≡ (b.id ∷ b.from_day ∷ []) → a.days ≡ b.days
    → (a.depot ∷ a.capacity ∷ a.opens ∷ a.closes ∷ a.duration ∷ []) ≡ (b.depot ∷ b.capacity ∷ b.opens ∷ b.closes ∷ b.duration ∷ [])
    → a.chairs ≡ b.chairs → a ≡ b
vehicle-from a b front days duty chairs = λ i. record {
  id = get_or (front i) 0 0;
  from_day = get_or (front i) 1 0;
  days = days i;
  depot = get_or (duty i) 0 0;
  capacity = get_or (duty i) 1 0;
  chairs = chairs i;
  opens = get_or (duty i) 2 0;
  closes = get_or (duty i) 3 0;
  duration = get_or (duty i) 4 0;
  capacity_in_range = is_prop→PathP (λ j. IsInRange 1 30 (get_or (duty j) 1 0)) (λ j. range-prop _ _ _) a.capacity_in_range b.capacity_in_range i;
  chairs_in_range = is_prop→PathP (λ j. chairs j ≤ 10) (λ j. at_most-prop _ _) a.chairs_in_range b.chairs_in_range i;
  hours_ordered = is_prop→PathP (λ j. get_or (duty j) 2 0 ≤ get_or (duty j) 3 0) (λ j. at_most-prop _ _) a.hours_ordered b.hours_ordered i;
  duration_in_range = is_prop→PathP (λ j. IsInRange 1 1_439 (get_or (duty j) 4 0)) (λ j. range-prop _ _ _) a.duration_in_range b.duration_in_range i;
}

-- a vehicle's numbers are in their ranges
pub duty-words : (v : Vehicle) → IsVehicle v → IsWord v.depot × IsWord v.capacity × IsWord v.opens × IsWord v.closes × IsWord v.duration
duty-words v fits =
    let capacity = v.capacity_in_range.1 in
    let duration = v.duration_in_range.1 in
    let ordered = v.hours_ordered in
    let closes = fits.closes in
    (fits.depot.1, omega arith, omega arith, omega arith, omega arith)

-- the wheelchair places of a vehicle, or none
pub chairs-some : (more : ℕ) → chairs_bytes (suc more) ≡ number_bytes (suc more)
chairs-some more = cond-false (suc more == 0) [] (number_bytes (suc more)) (ne_eqb (suc more) 0 (omega arith))

pub chairs-length : (more : ℕ) → length (chairs_bytes (suc more)) ≡ 4
chairs-length more = ap (length {A = ℕ}) (chairs-some more) ∙ length-number (suc more)

pub chairs-same : (one other : ℕ) → one ≤ 10 → other ≤ 10 → chairs_bytes one ≡ chairs_bytes other → one ≡ other
chairs-same zero zero ones others e = refl
chairs-same (suc one) (suc other) ones others e =
    number-same (suc one) (suc other) (omega arith) (omega arith) (sym (chairs-some one) ∙ e ∙ chairs-some other)
chairs-same zero (suc other) ones others e =
    absurd (let none : 0 ≡ length (chairs_bytes (suc other)) = ap (length {A = ℕ}) e in omega (arith, none, chairs-length other))
chairs-same (suc one) zero ones others e =
    absurd (let none : length (chairs_bytes (suc one)) ≡ 0 = ap (length {A = ℕ}) e in omega (arith, none, chairs-length one))

pub vehicle-same : (one other : Vehicle) → IsVehicle one → IsVehicle other → vehicle_bytes one ≡ vehicle_bytes other → one ≡ other
vehicle-same one other ones others e =
    let duty : Vehicle → List ℕ = λ v. v.depot ∷ v.capacity ∷ v.opens ∷ v.closes ∷ v.duration ∷ [] in
    let parts : (v : Vehicle) → vehicle_bytes v ≡ numbers_bytes (v.id ∷ v.from_day ∷ []) ++
    (days_byte v.days ∷ (numbers_bytes (duty v) ++ chairs_bytes v.chairs)) = λ v. four_parts
    (numbers_bytes (v.id ∷ v.from_day ∷ [])) (days_byte v.days ∷ []) (numbers_bytes (duty v))
    (chairs_bytes v.chairs) in
    let grouped = sym (parts one) ∙ e ∙ parts other in
    let front = numbers-then (one.id ∷ one.from_day ∷ []) (other.id ∷ other.from_day ∷ []) _ _ refl
    (ones.id.1, (day-word one.from_day ones.from_day, tt))
    (others.id.1, (day-word other.from_day others.from_day, tt)) grouped in
    let days = byte-then (days_byte one.days) (days_byte other.days) _ _ front.1 in
    let a = duty-words one ones in
    let b = duty-words other others in
    let rest = numbers-then (duty one) (duty other) _ _ refl (a.0, (a.1, (a.2, (a.3, (a.4, tt))))) (b.0, (b.1, (b.2, (b.3, (b.4, tt))))) days.1 in
    let chairs = chairs-same one.chairs other.chairs one.chairs_in_range other.chairs_in_range rest.1 in
    vehicle-from one other front.0 (days-same one.days other.days ones.days others.days days.0) rest.0 chairs

-- ---- rows

pub row-then : (one other : Row) (x y : List ℕ) → IsRow one × (one.2 ≤ 1439) → IsRow other × (other.2 ≤ 1439) → row_bytes one ++ x ≡ row_bytes other ++ y → (one ≡ other) × (x ≡ y)
row-then one other x y ones others e =
    let most = ones.1 in
    let others_most = others.1 in
    let parts = numbers-then (one.0 ∷ one.1 ∷ one.2 ∷ []) (other.0 ∷ other.1 ∷ other.2 ∷ []) x y refl
    (ones.0.0.1, (ones.0.1.1, (omega arith, tt))) (others.0.0.1, (others.0.1.1, (omega arith, tt))) e in
    (λ i. (get_or (parts.0 i) 0 0, get_or (parts.0 i) 1 0, get_or (parts.0 i) 2 0), parts.1)
