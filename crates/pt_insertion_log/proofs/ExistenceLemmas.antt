-- Where a trip has no place, each case has raises and an end. So the day has a log.
use Rattle.std.proofs.Common.{arith, ◌≡◌, ◌∙◌, ◌⊎◌, ℕ, zero, suc, ◌+◌, ◌-◌, ◌<◌, ◌≤◌, ◌==◌, max, Bool, true, false}
use Rattle.std.proofs.Common.{List, [], ◌∷◌, ◌++◌, length, map, take, drop, All, Option, None, Some, IsSome}
use Rattle.std.proofs.Common.{IsSomeAnd, IsTrue, slice_get, slice_index, inl, inr, refl, sym, subst, ap, add-one, le_refl}
use Rattle.std.specs.List.{flat_map}
use Rattle.std.proofs.lemmas.Bool.{cases_lt, cases_eq, ne_eqb, cond-false}
use Rattle.std.proofs.lemmas.List.Elements.{All-append, All-cons, All-nil, All-head, All-tail, All-take, All-drop, All-map}
use Rattle.std.proofs.lemmas.Option.{same_Some, slice_get_cases, slice_get_within, get_or_from_slice_get}
use Rattle.pt_base_values.specs.Load.{FitsWithin}
use Rattle.pt_base_values.specs.Ranges.{last_minute}
use Rattle.pt_base_values.specs.declared.vehicle.Vehicle.{Vehicle}
use Rattle.pt_feasible.specs.Loads.{load_aboard, LoadsFit}
use Rattle.pt_feasible.specs.Pairing.{most_stops}
use Rattle.pt_feasible.specs.Route.{stops_of}
use Rattle.pt_feasible.specs.ServiceTimes.{TimesFit}
use Rattle.pt_feasible.specs.Stop.{is_pickup, is_drop}
use Rattle.pt_feasible.specs.Visit.{visits, depot_visit, stop_visit}
use Rattle.pt_feasible.specs.declared.stop.Stop.{Stop}
use Rattle.pt_feasible.specs.declared.visit.Visit.{Visit}
use Rattle.pt_feasible.proofs.VisitLemmas.{length-visits, visits-stop}
use Rattle.pt_insertion_search.specs.Asked.{pickup_stop, drop_stop}
use Rattle.pt_insertion_search.specs.Insertion.{with_trip}
use Rattle.pt_insertion_search.specs.Possible.{IsPossible}
use Rattle.pt_insertion_search.specs.declared.asked.Asked.{Asked}
use Rattle.pt_insertion_search.specs.declared.duty.Duty.{Duty}
use Rattle.pt_insertion_search.proofs.InsertionLemmas.{length-with_trip}
use Rattle.pt_audit.specs.Bounds.{visit_of, minute_of, raised, AreRight, IsRightRaise, IsRightEnd}
use Rattle.pt_audit.specs.Cases.{Case, case_at, numbers_from, cases_of_pickup, cases_of_vehicle, cases_of_day}
use Rattle.pt_audit.specs.RightLog.{BeginsWithCases, IsNowherePossible, case_line, lines_of}
use Rattle.pt_audit.specs.Text.{IsInForm, IsLogText, IsNumber, closing, line_text, opening}
use Rattle.pt_audit.specs.declared.line.Line.{Line}
use Rattle.pt_audit.specs.declared.line.Line.TheVariants as line
use Rattle.pt_audit.specs.declared.line.Raise.{Raise}
use Rattle.pt_audit.specs.declared.line.Raise.TheVariants.{Window, Drive, Ride, Duration}
use Rattle.pt_audit.specs.declared.line.End.{End}
use Rattle.pt_audit.specs.declared.line.End.TheVariants.{Late, Overloaded, NoWay, TooLong}
use Rattle.pt_audit.proofs.LawLemmas.{Each}
use Rattle.pt_insertion_log.specs.Refusals.{IsOfADay, RefusalsHaveLogs}
use Rattle.pt_insertion_log.proofs.FitLemmas.{raise-room, room_of}

-- a finding, or each of these holds
each_or : {A : Type 0} (Q : ℕ → Type 0) (n : ℕ) → ((k : ℕ) → k < n → A ⊎ Q k) → A ⊎ ((k : ℕ) → k < n → Q k)
each_or Q zero test = inr (λ k below. absurd (omega arith))
each_or Q (suc n) test = elim (test n (omega arith)) [
  | inl found ↦ inl found
  | inr here ↦ elim (each_or Q n (λ k below. test k (omega arith))) [
    | inl found ↦ inl found
    | inr each ↦ inr (λ k below. elim (cases_eq k n) [
      | inl same ↦ subst Q (sym same) here
      | inr other ↦ each k (omega (arith, other))
    ])
  ]
]

value_or : (o : Option ℕ) → (o ≡ None) ⊎ ((n : ℕ) × (o ≡ Some n))
value_or None = inl refl
value_or (Some n) = inr (n, refl)

holds_or : (b : Bool) → IsTrue b ⊎ (¬ IsTrue b)
holds_or true = inl refl
holds_or false = inr (λ says. absurd (cc))

-- what holds of the value holds of each value there
seen : {A : Type 0} (P : A → Type 0) (o : Option A) (x : A) → o ≡ Some x → P x → (y : A) → o ≡ Some y → P y
seen P o x is holds y also = subst P (same_Some x y (sym is ∙ also)) holds

-- nothing is said of a value that is not there
unseen : {A : Type 0} (P : A → Type 0) (o : Option A) → o ≡ None → (y : A) → o ≡ Some y → P y
unseen P o none y also = absurd (cc)

two : (k n : ℕ) → IsNumber k → IsNumber n → All IsNumber (k ∷ n ∷ [])
two k n first second = All-cons IsNumber k (n ∷ []) first (All-cons IsNumber n [] second (All-nil IsNumber))

one : (k : ℕ) → IsNumber k → All IsNumber (k ∷ [])
one k first = All-cons IsNumber k [] first (All-nil IsNumber)

-- the first values of a function
abbrev listed : (ℕ → ℕ) → ℕ → List ℕ
listed value zero = []
listed value (suc n) = value 0 ∷ listed (λ k. value (suc k)) n

length-listed : (value : ℕ → ℕ) (n : ℕ) → length (listed value n) ≡ n
length-listed value zero = refl
length-listed value (suc n) = ap suc (length-listed (λ k. value (suc k)) n)

listed-at : (value : ℕ → ℕ) (n k : ℕ) → k < n → slice_index (listed value n) k ≡ value k
listed-at value zero k below = absurd (omega arith)
listed-at value (suc n) zero below = refl
listed-at value (suc n) (suc k) below = listed-at (λ j. value (suc j)) n k (omega arith)

index-past : (xs : List ℕ) (k : ℕ) → length xs ≤ k → slice_index xs k ≡ 0
index-past [] k past = refl
index-past (x ∷ xs) zero past = absurd (omega arith)
index-past (x ∷ xs) (suc k) past = index-past xs k (omega arith)

listed-as : (value : ℕ → ℕ) (n : ℕ) → ((k : ℕ) → n ≤ k → value k ≡ 0) → (k : ℕ) → slice_index (listed value n) k ≡ value k
listed-as value n none k = elim (cases_lt k n) [
  | inl below ↦ listed-at value n k below
  | inr past ↦ index-past (listed value n) k (omega (arith, past, length-listed value n)) ∙ sym (none k past)
]

module _ (minutes : ℕ → ℕ → Option ℕ) (vehicle : Vehicle) (stops : List Stop) (few : length stops + 2 < 4_294_967_295)
    (high : (k : ℕ) (visit : Visit) → slice_get (visits vehicle stops) k ≡ Some visit → visit.hi < 4_294_967_295)
    (never : (b : List ℕ) → TimesFit minutes vehicle stops b → LoadsFit vehicle stops → length stops ≤ most_stops → ⊥) where
  -- a bound that can be raised, or a constraint that is broken
  abbrev Rises : (ℕ → ℕ) → Type 0
  Rises bound = (raise : Raise) × IsRightRaise minutes vehicle stops bound raise
      × (bound (visit_of raise) < minute_of raise) × (visit_of raise < length stops + 2) × IsInForm (line.Raise raise)

  abbrev Ends : (ℕ → ℕ) → Type 0
  Ends bound = (end : End) × IsRightEnd minutes vehicle stops bound end × IsInForm (line.End end)

  abbrev Goes : (ℕ → ℕ) → Type 0
  Goes bound = Rises bound ⊎ Ends bound

  abbrev InWindow : (ℕ → ℕ) → ℕ → Type 0
  InWindow bound k = (visit : Visit) → slice_get (visits vehicle stops) k ≡ Some visit →
      (visit.lo ≤ bound k) × (bound k ≤ visit.hi)

  abbrev InWindows : (ℕ → ℕ) → Type 0
  InWindows bound = (k : ℕ) → k < length stops + 2 → InWindow bound k

  in_window : (bound : ℕ → ℕ) (k : ℕ) → k < length stops + 2 → Goes bound ⊎ InWindow bound k
  in_window bound k inside = elim (slice_get_cases (visits vehicle stops) k).1 [
    | inl (visit, within, here, read) ↦ elim (cases_lt visit.hi (bound k)) [
      | inl late ↦ inl (inr (Late k, rw here late, one k (omega arith)))
      | inr in_time ↦ elim (cases_lt (bound k) visit.lo) [
        | inl early ↦ inl (inl (
          Window k (bound k + 1),
          rw here (omega arith),
          omega arith,
          inside,
          two k (bound k + 1) (omega arith) (omega (arith, in_time, high k visit here)),
        ))
        | inr from ↦ inr (seen (λ v. (v.lo ≤ bound k) × (bound k ≤ v.hi)) (slice_get (visits vehicle stops) k) visit here (from, in_time))
      ]
    ]
    | inr (past, none) ↦ inr (unseen (λ v. (v.lo ≤ bound k) × (bound k ≤ v.hi)) (slice_get (visits vehicle stops) k) none)
  ]

  -- a bound in its window can be raised by a minute
  room_at : (bound : ℕ → ℕ) → InWindows bound → (k : ℕ) (visit : Visit) → slice_get (visits vehicle stops) k ≡ Some visit →
      IsNumber (bound k + 1)
  room_at bound windows k visit here =
      let within = slice_get_within (visits vehicle stops) k visit here in
      omega (arith, (windows k (omega (arith, within, length-visits vehicle stops)) visit here).1, high k visit here)

  abbrev Drives : (ℕ → ℕ) → ℕ → Visit → Visit → Type 0
  Drives bound k this next =
      IsSomeAnd (minutes this.place next.place) (λ drive. bound k + this.service + drive ≤ bound (k + 1))

  abbrev IsDriven : (ℕ → ℕ) → ℕ → Type 0
  IsDriven bound k = (this : Visit) → slice_get (visits vehicle stops) k ≡ Some this →
      (next : Visit) → slice_get (visits vehicle stops) (k + 1) ≡ Some next → Drives bound k this next

  driven_between : (bound : ℕ → ℕ) → InWindows bound → (k : ℕ) → k < length stops + 2 → (this next : Visit) →
      slice_get (visits vehicle stops) k ≡ Some this → slice_get (visits vehicle stops) (k + 1) ≡ Some next →
      Goes bound ⊎ Drives bound k this next
  driven_between bound windows k inside this next here there = elim (value_or (minutes this.place next.place)) [
    | inl none ↦ inl (inr (NoWay k, rw here (rw there none), one k (omega arith)))
    | inr (drive, way) ↦
        let place : k + 1 ≡ suc k = add-one k in
        let after = subst (λ m. slice_get (visits vehicle stops) m ≡ Some next) place there in
        let within = slice_get_within (visits vehicle stops) (suc k) next after in
        elim (cases_lt (bound (suc k)) (bound k + this.service + drive)) [
          | inl short ↦ inl (inl (
            Drive (suc k) (bound (suc k) + 1),
            rw here (rw after (rw way (omega arith))),
            omega arith,
            omega (arith, within, length-visits vehicle stops),
            two (suc k) (bound (suc k) + 1) (omega (arith, within, length-visits vehicle stops))
                (room_at bound windows (suc k) next after),
          ))
          | inr enough ↦ inr (rw way (omega (arith, enough, ap bound place)))
        ]
  ]

  driven : (bound : ℕ → ℕ) → InWindows bound → (k : ℕ) → k < length stops + 2 → Goes bound ⊎ IsDriven bound k
  driven bound windows k inside = elim (slice_get_cases (visits vehicle stops) k).1 [
    | inl (this, within, here, read) ↦ elim (slice_get_cases (visits vehicle stops) (k + 1)).1 [
      | inl (next, within', there, read') ↦ elim (driven_between bound windows k inside this next here there) [
        | inl found ↦ inl found
        | inr drives ↦ inr (λ this' at. seen (Drives bound k this') (slice_get (visits vehicle stops) (k + 1)) next there
            (seen (λ t. Drives bound k t next) (slice_get (visits vehicle stops) k) this here drives this' at))
      ]
      | inr (past, none) ↦ inr (λ this' at. unseen (Drives bound k this') (slice_get (visits vehicle stops) (k + 1)) none)
    ]
    | inr (past, none) ↦ inr (λ this' at next' to. absurd (cc))
  ]

  abbrev Rides : (ℕ → ℕ) → ℕ → ℕ → Stop → Stop → Type 0
  Rides bound i j pickup drop = IsTrue (is_pickup pickup) → IsTrue (is_drop drop) → pickup.trip ≡ drop.trip →
      bound (j + 1) - (bound (i + 1) + pickup.service) ≤ pickup.ride

  abbrev IsRidden : (ℕ → ℕ) → ℕ → ℕ → Type 0
  IsRidden bound i j = (pickup : Stop) → slice_get stops i ≡ Some pickup →
      (drop : Stop) → slice_get stops j ≡ Some drop → Rides bound i j pickup drop

  rides_between : (bound : ℕ → ℕ) → InWindows bound → (i j : ℕ) (pickup drop : Stop) →
      slice_get stops i ≡ Some pickup → slice_get stops j ≡ Some drop →
      IsTrue (is_pickup pickup) → IsTrue (is_drop drop) → pickup.trip ≡ drop.trip →
      Goes bound ⊎ (bound (j + 1) - (bound (i + 1) + pickup.service) ≤ pickup.ride)
  rides_between bound windows i j pickup drop here there picks drops same =
      let place : i + 1 ≡ suc i = add-one i in
      let within = slice_get_within stops i pickup here in
      elim (cases_lt pickup.ride (bound (j + 1) - (bound (suc i) + pickup.service))) [
        | inl over ↦ inl (inl (
          Ride (suc i) (bound (suc i) + 1),
          (j, pickup, drop, here, there, picks, drops, same, omega arith),
          omega arith,
          omega arith,
          two (suc i) (bound (suc i) + 1) (omega (arith, few))
              (room_at bound windows (suc i) (stop_visit pickup) (visits-stop vehicle stops i pickup here)),
        ))
        | inr enough ↦ inr (omega (arith, enough, ap bound place))
      ]

  rides_at : (bound : ℕ → ℕ) → InWindows bound → (i j : ℕ) (pickup drop : Stop) →
      slice_get stops i ≡ Some pickup → slice_get stops j ≡ Some drop → Goes bound ⊎ Rides bound i j pickup drop
  rides_at bound windows i j pickup drop here there = elim (holds_or (is_pickup pickup)) [
    | inr never_picks ↦ inr (λ picks drops same. absurd (never_picks picks))
    | inl picks ↦ elim (holds_or (is_drop drop)) [
      | inr never_drops ↦ inr (λ picks' drops same. absurd (never_drops drops))
      | inl drops ↦ elim (cases_eq pickup.trip drop.trip) [
        | inr other ↦ inr (λ picks' drops' same. absurd (other same))
        | inl same ↦ elim (rides_between bound windows i j pickup drop here there picks drops same) [
          | inl found ↦ inl found
          | inr enough ↦ inr (λ picks' drops' same'. enough)
        ]
      ]
    ]
  ]

  ridden : (bound : ℕ → ℕ) → InWindows bound → (i j : ℕ) → Goes bound ⊎ IsRidden bound i j
  ridden bound windows i j = elim (slice_get_cases stops i).1 [
    | inl (pickup, within, here, read) ↦ elim (slice_get_cases stops j).1 [
      | inl (drop, within', there, read') ↦ elim (rides_at bound windows i j pickup drop here there) [
        | inl found ↦ inl found
        | inr rides ↦ inr (λ pickup' at. seen (Rides bound i j pickup') (slice_get stops j) drop there
            (seen (λ p. Rides bound i j p drop) (slice_get stops i) pickup here rides pickup' at))
      ]
      | inr (past, none) ↦ inr (λ pickup' at. unseen (Rides bound i j pickup') (slice_get stops j) none)
    ]
    | inr (past, none) ↦ inr (λ pickup' at drop' to. absurd (cc))
  ]

  back : (bound : ℕ → ℕ) → InWindows bound → Goes bound ⊎ (bound (length stops + 1) - bound 0 ≤ vehicle.duration)
  back bound windows = elim (cases_lt vehicle.duration (bound (length stops + 1) - bound 0)) [
    | inl over ↦ inl (inl (
      Duration (bound 0 + 1),
      omega arith,
      omega arith,
      omega arith,
      two 0 (bound 0 + 1) (omega arith) (room_at bound windows 0 (depot_visit vehicle) refl),
    ))
    | inr enough ↦ inr enough
  ]

  aboard : (bound : ℕ → ℕ) (k : ℕ) → k < length stops + 1 → Goes bound ⊎ FitsWithin (load_aboard (take k stops)) vehicle
  aboard bound k inside = elim (cases_lt vehicle.capacity (load_aboard (take k stops)).seats) [
    | inl over ↦ inl (inr (Overloaded k, (omega arith, λ fits. omega (arith, fits.seats, over)), one k (omega arith)))
    | inr seats ↦ elim (cases_lt vehicle.chairs (load_aboard (take k stops)).chairs) [
      | inl over ↦ inl (inr (Overloaded k, (omega arith, λ fits. omega (arith, fits.chairs, over)), one k (omega arith)))
      | inr chairs ↦ inr (record { seats = seats; chairs = chairs })
    ]
  ]

  -- whatever the bounds, one can be raised or a constraint is broken
  goes : (bounds : List ℕ) → length bounds ≡ length stops + 2 → Goes (slice_index bounds)
  goes bounds long =
      let bound = slice_index bounds in
      elim (each_or (InWindow bound) (length stops + 2) (in_window bound)) [
        | inl found ↦ found
        | inr windows ↦ elim (each_or (IsDriven bound) (length stops + 2) (driven bound windows)) [
          | inl found ↦ found
          | inr drives ↦ elim (each_or (λ i. (j : ℕ) → j < length stops → IsRidden bound i j) (length stops)
              (λ i below. each_or (IsRidden bound i) (length stops) (λ j within. ridden bound windows i j))) [
                | inl found ↦ found
                | inr rides ↦ elim (back bound windows) [
                  | inl found ↦ found
                  | inr home ↦ elim (each_or (λ k. FitsWithin (load_aboard (take k stops)) vehicle) (length stops + 1) (aboard bound)) [
                    | inl found ↦ found
                    | inr loads ↦ elim (cases_lt most_stops (length stops)) [
                      | inl over ↦ inr (TooLong, over, All-nil IsNumber)
                      | inr room ↦ absurd (never bounds (record {
                        one_each = long;
                        time_windows = λ k visit here. windows k (inside k visit here) visit here;
                        driving_times = λ k this next here there. drives k (inside k this here) this here next there;
                        ride_limits = λ i j pickup drop here there.
                            rides i (slice_get_within stops i pickup here) j (slice_get_within stops j drop there) pickup here drop there;
                        route_duration = home;
                      }) (λ k within. loads k (omega arith)) room)
                    ]
                  ]
                ]
              ]
        ]
      ]
    where
      inside : (k : ℕ) (visit : Visit) → slice_get (visits vehicle stops) k ≡ Some visit → k < length stops + 2
      inside k visit here = omega (arith, slice_get_within (visits vehicle stops) k visit here, length-visits vehicle stops)

  -- raises and an end that are right from these bounds on
  abbrev pub HasEnd : (ℕ → ℕ) → Type 0
  HasEnd bound = (raises : List Raise) × (end : End) × All IsInForm (map line.Raise raises ++ line.End end ∷ [])
      × AreRight minutes vehicle stops bound raises end

  raised-past : (bounds : List ℕ) (raise : Raise) → length bounds ≡ length stops + 2 → visit_of raise < length stops + 2 →
      (k : ℕ) → length stops + 2 ≤ k → raised (slice_index bounds) raise k ≡ 0
  raised-past bounds raise long inside k past =
      cond-false (k == visit_of raise) (max (slice_index bounds k) (minute_of raise)) (slice_index bounds k)
      (ne_eqb k (visit_of raise) (λ same. omega arith)) ∙ index-past bounds k (omega arith)

  onward : (bounds : List ℕ) → length bounds ≡ length stops + 2
      → ((next : List ℕ) → length next ≡ length stops + 2 → room_of next < room_of bounds → HasEnd (slice_index next))
      → HasEnd (slice_index bounds)
  onward bounds long rest = elim (goes bounds long) [
    | inl (raise, right, later, inside, form) ↦
        let value = raised (slice_index bounds) raise in
        let next = listed value (length stops + 2) in
        let long' = length-listed value (length stops + 2) in
        let each = listed-as value (length stops + 2) (raised-past bounds raise long inside) in
        let (raises, end, forms, are_right) = subst HasEnd (λ i k. each k i)
        (rest next long' (raise-room bounds next raise (long ∙ sym long') each later form)) in
        (raise ∷ raises, end, All-cons IsInForm (line.Raise raise) (map line.Raise raises ++ line.End end ∷ []) form forms, (right, are_right))
    | inr (end, right, form) ↦ ([], end, All-cons IsInForm (line.End end) [] form (All-nil IsInForm), right)
  ]

  within : (room : ℕ) (bounds : List ℕ) → length bounds ≡ length stops + 2 → room_of bounds ≤ room → HasEnd (slice_index bounds)
  within zero bounds long most = onward bounds long (λ next same less. absurd (omega arith))
  within (suc room) bounds long most = onward bounds long (λ next same less. within room next same (omega arith))

  pub has_end : HasEnd (λ _. 0)
  has_end =
      let zeros = listed (λ _. 0) (length stops + 2) in
      subst HasEnd (λ i k. listed-as (λ _. 0) (length stops + 2) (λ k' past. refl) k i)
      (within (room_of zeros) zeros (length-listed (λ _. 0) (length stops + 2)) (le_refl (room_of zeros)))

-- a case has lines of a log
abbrev HasLines : (ℕ → ℕ → Option ℕ) → Case → Type 0
HasLines minutes case = (raises : List Raise) × (end : End) × All IsInForm (lines_of case raises end)
    × AreRight minutes case.vehicle case.stops (λ _. 0) raises end

cases_have_lines : (minutes : ℕ → ℕ → Option ℕ) (cases : List Case) → Each (HasLines minutes) cases →
    (lines : List Line) × All IsInForm lines × BeginsWithCases minutes cases lines []
cases_have_lines minutes [] each = ([], All-nil IsInForm, refl)
cases_have_lines minutes (case ∷ cases) ((raises, end, form, right), later) =
    let (after, forms, begins) = cases_have_lines minutes cases later in (
      lines_of case raises end ++ after,
      All-append IsInForm (lines_of case raises end) after form forms,
      (raises, end, after, refl, right, begins),
    )

Each-append : {A : Type 0} (P : A → Type 0) (xs ys : List A) → Each P xs → Each P ys → Each P (xs ++ ys)
Each-append P [] ys first second = second
Each-append P (x ∷ xs) ys first second = (first.0, Each-append P xs ys first.1 second)

Each-flat_map : {A : Type 0} (P : A → Type 0) (f : ℕ → List A) (first count : ℕ) →
    ((k : ℕ) → first ≤ k → k < first + count → Each P (f k)) → Each P (flat_map f (numbers_from first count))
Each-flat_map P f first zero each = tt
Each-flat_map P f first (suc count) each = Each-append P (f first) _ (each first (omega arith) (omega arith))
    (Each-flat_map P f (first + 1) count (λ k low below. each k (omega arith) (omega arith)))

Each-map : {A : Type 0} (P : A → Type 0) (f : ℕ → A) (first count : ℕ) →
    ((k : ℕ) → first ≤ k → k < first + count → P (f k)) → Each P (map f (numbers_from first count))
Each-map P f first zero each = tt
Each-map P f first (suc count) each = (
  each first (omega arith) (omega arith),
  Each-map P f (first + 1) count (λ k low below. each k (omega arith) (omega arith)),
)

abbrev EndsInTime : Stop → Type 0
EndsInTime stop = stop.hi ≤ last_minute

with_trip-in_time : (asked : Asked) (i j : ℕ) (stops : List Stop) → asked.hi ≤ last_minute → asked.latest ≤ last_minute →
    All EndsInTime stops → All EndsInTime (with_trip asked i j stops)
unfolding with_trip
with_trip-in_time asked i j stops pickup goal each =
    let ridden = drop i (take j stops) in
    All-append EndsInTime (take i stops ++ pickup_stop asked ∷ ridden) (drop_stop asked ∷ drop j stops)
    (All-append EndsInTime (take i stops) (pickup_stop asked ∷ ridden) (All-take EndsInTime i stops each)
    (All-cons EndsInTime (pickup_stop asked) ridden pickup
    (All-drop EndsInTime i (take j stops) (All-take EndsInTime j stops each))))
    (All-cons EndsInTime (drop_stop asked) (drop j stops) goal (All-drop EndsInTime j stops each))

abbrev VisitInTime : Visit → Type 0
VisitInTime visit = visit.hi ≤ last_minute

visits-in_time : (vehicle : Vehicle) (stops : List Stop) → vehicle.closes ≤ last_minute → All EndsInTime stops →
    All VisitInTime (visits vehicle stops)
visits-in_time vehicle stops closes each =
    All-cons VisitInTime (depot_visit vehicle) _ closes
    (All-append VisitInTime (map stop_visit stops) (depot_visit vehicle ∷ []) (All-map VisitInTime stop_visit stops each)
    (All-cons VisitInTime (depot_visit vehicle) [] closes (All-nil VisitInTime)))

module _ (minutes : ℕ → ℕ → Option ℕ) (asked : Asked) (pickup : asked.hi ≤ last_minute) (goal : asked.latest ≤ last_minute)
    (direct : IsSome (minutes asked.origin asked.goal)) where
  case_has_lines : (duty : Duty) → IsOfADay duty → (i j : ℕ) → i ≤ j → j ≤ length (stops_of duty.route.now) →
      ¬ IsPossible minutes duty.vehicle.now (stops_of duty.route.now) asked i j →
      HasLines minutes (case_at asked duty.vehicle.now (stops_of duty.route.now) i j)
  case_has_lines duty of_a_day i j later among never =
      let vehicle = duty.vehicle.now in
      let stops = stops_of duty.route.now in
      let case = case_at asked vehicle stops i j in
      let long = length-with_trip asked i j stops later among in
      let all = visits-in_time vehicle case.stops of_a_day.closes (with_trip-in_time asked i j stops pickup goal of_a_day.stops) in
      let (raises, end, form, right) = has_end minutes vehicle case.stops (omega (arith, long, duty.route.now.short))
      (λ k visit here. omega (
        arith,
        subst VisitInTime (get_or_from_slice_get (visits vehicle case.stops) k visit visit here)
            (all k visit (slice_get_within (visits vehicle case.stops) k visit here)),
      ))
      (λ b fits loads room. never (record {
        direct = direct;
        room = omega (arith, long, room);
        drop_later = later;
        among = among;
        loads = loads;
        times = (b, fits);
      })) in
      let first : IsInForm (case_line case) = All-cons IsNumber vehicle.id (i ∷ j ∷ []) of_a_day.number
      (two i j (omega (arith, later, among, duty.route.now.short)) (omega (arith, among, duty.route.now.short))) in
      (raises, end, All-cons IsInForm (case_line case) (map line.Raise raises ++ line.End end ∷ []) first form, right)

  vehicle_has_lines : (duty : Duty) → IsOfADay duty →
      ((i j : ℕ) → ¬ IsPossible minutes duty.vehicle.now (stops_of duty.route.now) asked i j) →
      Each (HasLines minutes) (cases_of_vehicle asked duty.vehicle.now (stops_of duty.route.now))
  vehicle_has_lines duty of_a_day never =
      let stops = stops_of duty.route.now in
      Each-flat_map (HasLines minutes) (cases_of_pickup asked duty.vehicle.now stops) 0 (length stops + 1) (λ i low below.
      Each-map (HasLines minutes) (case_at asked duty.vehicle.now stops i) i (length stops + 1 - i) (λ j later within.
      case_has_lines duty of_a_day i j later (omega arith) (never i j)))

  day_has_lines : (duties : List Duty) → All IsOfADay duties → IsNowherePossible minutes duties asked →
      Each (HasLines minutes) (cases_of_day asked duties)
  day_has_lines [] days nowhere = tt
  day_has_lines (duty ∷ duties) days nowhere =
      let NowhereIn = λ (d : Duty). (i j : ℕ) → ¬ IsPossible minutes d.vehicle.now (stops_of d.route.now) asked i j in
      Each-append (HasLines minutes) (cases_of_vehicle asked duty.vehicle.now (stops_of duty.route.now)) _
      (vehicle_has_lines duty (All-head IsOfADay duty duties days) (All-head NowhereIn duty duties nowhere))
      (day_has_lines duties (All-tail IsOfADay duty duties days) (All-tail NowhereIn duty duties nowhere))

-- lines in form have a text
has_text : (lines : List Line) → All IsInForm lines → (text : List ℕ) × IsLogText text lines
has_text lines form = (opening ++ flat_map line_text lines ++ closing, (form, refl))

pub refusals_have_logs : RefusalsHaveLogs
refusals_have_logs minutes duties asked days pickup goal nowhere = elim (value_or (minutes asked.origin asked.goal)) [
  | inl none ↦
      let (text, is) = has_text (line.NoDirect ∷ []) (All-cons IsInForm line.NoDirect [] (All-nil IsNumber) (All-nil IsInForm)) in
      (text, line.NoDirect ∷ [], is, inl (refl, none))
  | inr (drive, way) ↦
      let direct : IsSome (minutes asked.origin asked.goal) = subst IsSome (sym way) refl in
      let (lines, form, begins) = cases_have_lines minutes (cases_of_day asked duties)
      (day_has_lines minutes asked pickup goal direct duties days nowhere) in
      let (text, is) = has_text lines form in
      (text, lines, is, inr begins)
]
