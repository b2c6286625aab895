-- A request in a sound state leaves a sound state.
use Rattle.std.proofs.Common.{rules, ◌≡◌, ℕ, ◌+◌, ◌<◌, ◌≤◌, ◌||◌, nat_lt, Bool, true, false, not, IsTrue, List, []}
use Rattle.std.proofs.Common.{◌∷◌, ◌++◌, length, take, min, Option, Some, None, is_some, arith, cond, refl, sym, ap}
use Rattle.std.proofs.Common.{◌∙◌, subst, inl, inr}
use Rattle.std.specs.Prelude.{◌&&◌, ◌==◌, find, filter, bytes_eq}
use Rattle.std.proofs.lemmas.Bool.Decides.{nat_tests}
use Rattle.std.proofs.lemmas.List.{length-map, length-take}
use Rattle.std.proofs.Common.{length-append}
use Rattle.std.proofs.lemmas.Slice.Eq.{bytes_eq-Decides}
use Rattle.pt_desk_rules.specs.Sha256.{sha256}
use Rattle.pt_desk_rules.specs.Day.{IsDay}
use Rattle.pt_desk_rules.specs.TripStatuses.{stands}
use Rattle.pt_desk_rules.specs.Place.{Place}
use Rattle.pt_desk_rules.specs.Policy.{Policy}
use Rattle.pt_desk_rules.specs.Rider.{Rider}
use Rattle.pt_desk_rules.specs.Vehicle.{Vehicle}
use Rattle.pt_desk_rules.specs.Rule.{Rule}
use Rattle.pt_desk_rules.specs.Route.{FixedRoute}
use Rattle.pt_base_records.specs.Keys.{pair_key}
use Rattle.pt_base_records.specs.Records.{edited, put, put_all, take_away, is_within, record_at, Each, IsInOrder}
use Rattle.pt_base_records.proofs.OrderLemmas.{Each-put, Each-weaker, Each-both, IsInOrder-put}
use Rattle.pt_base_records.proofs.TableLemmas.{same_or_other, stays_there, found_by_key, below_is, IsTable-put, IsTable-add, IsTable-replace, Each-filter, IsInOrder-filter}
use Rattle.pt_base_records.proofs.WithinLemmas.{within-put_other, within-put_last, Each-within}
use Rattle.pt_desk_rules.specs.FailingRules.{first_failing}
use Rattle.pt_desk_rules.specs.Entry.{Entry}
use Rattle.pt_desk_rules.specs.State.{most_callers, most_places, most_routes, most_riders, most_tables}
use Rattle.std.specs.Option.{unwrap_or}
use Rattle.pt_desk_spelling.specs.Replies.{reply_of}
use Rattle.pt_desk_spelling.specs.Requests.{spelling}
use Rattle.pt_desk_spelling.specs.declared.replies.KeptReply.{KeptReply}
use Rattle.pt_desk_spelling.specs.declared.replies.KeptReply.TheVariants as reply
use Rattle.pt_desk_rules.specs.State.{State, caller_with, kept_of, rider_of, trip_of, file_of, caller_key, kept_key}
use Rattle.pt_desk_rules.specs.State.{place_key, route_key, rider_key, entry_key, vehicle_key, travel_key, trip_key}
use Rattle.pt_desk_rules.specs.State.{span_of, versions_from, tables_from, tables_before, entries_of, applied}
use Rattle.pt_desk_rules.specs.Facts.{cancel_facts, change_facts, facts_of, has_subject, plan_for}
use Rattle.pt_desk_rules.specs.Chain.{Row}
use Rattle.pt_desk_rules.proofs.FleetLemmas.{version_stays, fleet_stays}
use Rattle.pt_desk_laws.proofs.NumberLemmas.{callers_by, decided_makes, new_is_above, Makes}
use Rattle.pt_desk_rules.specs.Fleet.{on_duty, vehicle_count, versions_before, versions_of_others}
use Rattle.pt_desk_rules.specs.Planned.{is_booked_from, planned_on, trips_on}
use Rattle.pt_desk_rules.specs.Travel.{TravelTable}
use Rattle.pt_desk_rules.specs.Rules.{rules_of, is_nobody_else, is_nobody_of_another_kind, are_there, has_room_for}
use Rattle.pt_desk_rules.specs.Booking.{routes_on, IsBooking}
use Rattle.pt_desk_rules.specs.Outcome.{Outcome}
use Rattle.pt_desk_rules.specs.Outcomes.{awaits_outcome}
use Rattle.pt_desk_laws.proofs.EndLemmas.{end_sound}
use Rattle.pt_desk_rules.specs.Deciding.{booked, kept_by, with_kept, IsCancelDecided, IsChangeDecided, IsEndDecided, IsDecidedBy, IsDecisionAfter, PutsInRangeIf}
use Rattle.pt_desk_rules.specs.Trips.{cancelled, plan_of_stops, plan_span}
use Rattle.pt_desk_booking.specs.Request as request_of
use Rattle.pt_desk_scheduling.specs.Plan.{Plan, plan_key, planned_stops, stops_of_plan, without, IsPlannedRoute, IsRoutePlan}
use Rattle.pt_desk_scheduling.specs.Scheduling.{IsBookedIn}
use Rattle.pt_desk_scheduling.specs.declared.planned.PlannedStop.{PlannedStop}
use Rattle.pt_desk_scheduling.proofs.PlanLemmas.{found_key}
use Rattle.pt_desk_scheduling.proofs.RouteLemmas.{booked_has, booked_keeps, booked_plan, booked_route, booked_trips, has_trip, left_has, left_route, planned_route, Each-found}
use Rattle.pt_desk_spelling.specs.Ranges.{IsRequest}
use Rattle.pt_desk_rules.specs.Parts as part
use Rattle.pt_desk_rules.specs.Ranges.{FitsKept, KeepsRanges}
use Rattle.pt_desk_rules.specs.Sound.{HasStops}
use Rattle.pt_desk_rules.proofs.RangeLemmas.{Each-more, each-put, first_days, kept_in_range, planned_days, puts_beside, ranges_kept, trip_days}
use Rattle.pt_desk_laws.proofs.FitLemmas.{booked_fits, each_drive, each_load, fit_after, fit_beside, has_stops, left_fits, left_has_stops, travel_fits, vehicle_fits, FitsIn}
use Rattle.pt_desk_laws.proofs.StandingLemmas.{each_found, has_on, plans_left, put_planned, same_place, stays_beside, stays_planned, trip_on, Each-put_over}
use Rattle.pt_desk_laws.proofs.PlannedLemmas.{left_standing, plans_after, plans_beside, put_stands, standing_without}
use Rattle.pt_desk_scheduling.specs.declared.scheduling.Scheduled.TheVariants as scheduled
use Rattle.pt_desk_rules.specs.Trip.{Trip}
use Rattle.pt_desk_rules.specs.Wish.{Wish}
use Rattle.pt_desk_rules.specs.Moment.{Moment}
use Rattle.pt_base_records.specs.declared.span.Span.{Span}
use Rattle.pt_desk_rules.specs.Step.{state_after, arrival_in, sent_with, left_of, sender, IsOutcome, IsOutcomeBy, IsOutcomeAs}
use Rattle.pt_desk_rules.specs.Sound.{IsSound, IsNumberedTo, IsSoundFile, IsIn, HasOneHolder, HasSubject, IsOfCaller}
use Rattle.pt_desk_rules.specs.Sound.{IsKeptWrite, HasFiledRider, HasAuthor, HasFirstDay, HasDepot, HasDay, HasPlaces}
use Rattle.pt_desk_rules.specs.Sound.{HasStandingTrips, IsOfPlaces, IsOfRider, IsPlanned, StandsIn, AreNumberedFrom}
use Rattle.pt_desk_rules.specs.Caller.{Caller}
use Rattle.pt_desk_rules.specs.declared.kept.Arrival.{Arrival}
use Rattle.pt_desk_rules.specs.declared.kept.Arrival.TheVariants.{New, Repeated, Stale}
use Rattle.pt_desk_rules.specs.declared.kept.Kept.{Kept}
use Rattle.pt_desk_rules.specs.declared.kept.Sent.{Sent}
use Rattle.pt_desk_rules.specs.Role.{Role}
use Rattle.pt_desk_rules.specs.Role.TheVariants as role
use Rattle.pt_desk_rules.specs.declared.change.Change.{Change}
use Rattle.pt_desk_rules.specs.declared.change.FiledEntry.{FiledEntry}
use Rattle.pt_desk_rules.specs.declared.deciding.Decision.{Decision}
use Rattle.pt_desk_rules.specs.declared.deciding.Decision.TheVariants.{Denied, Accepted}
use Rattle.pt_desk_rules.specs.Answer.{Answer}
use Rattle.pt_desk_rules.specs.Request.{Request}
use Rattle.pt_desk_rules.specs.Request.TheVariants as request
use Rattle.pt_desk_rules.specs.Write.{Write}
use Rattle.pt_desk_rules.specs.Write.TheVariants as write

held_by : (new x : Caller) (xs : List Caller) (b : Bool) → bytes_eq x.digest new.digest ≡ b → Each (HasOneHolder (x ∷ xs)) (x ∷ xs)
    → IsTrue (is_nobody_else new.id (cond b (Some x) (find (λ caller. bytes_eq caller.digest new.digest) xs)))
    → (IsTrue (is_nobody_else new.id (find (λ caller. bytes_eq caller.digest new.digest) xs)) → Each (λ other. new.digest ≡ other.digest → new.id ≡ other.id) xs)
    → Each (λ other. new.digest ≡ other.digest → new.id ≡ other.id) (x ∷ xs)
held_by new x xs true is one free rest =
    let has : x.digest ≡ new.digest = (bytes_eq-Decides x.digest new.digest).0 is in
    let number : x.id ≡ new.id = grind (arith, nat_tests) in
    Each-weaker (λ b. x.digest ≡ b.digest → x.id ≡ b.id) (λ other. new.digest ≡ other.digest → new.id ≡ other.id) (λ other holds same. sym number ∙ holds (has ∙ same)) (x ∷ xs) one.0
held_by new x xs false is one free rest =
    ((λ same. absurd (let yes = (bytes_eq-Decides x.digest new.digest).1 (sym same) in cc)), rest free)

-- every caller with the digest has the number
holders_are : (new : Caller) (callers : List Caller) → Each (HasOneHolder callers) callers → IsTrue (is_nobody_else new.id (find (λ caller. bytes_eq caller.digest new.digest) callers))
    → Each (λ other. new.digest ≡ other.digest → new.id ≡ other.id) callers
holders_are new [] one free = tt
holders_are new (x ∷ xs) one free = held_by new x xs (bytes_eq x.digest new.digest) refl one free
    (λ free. holders_are new xs (Each-weaker (HasOneHolder (x ∷ xs)) (HasOneHolder xs) (λ a holds. holds.1) xs one.1) free)

-- no two callers have the same digest, including the new one
one_holder-put : (new : Caller) (callers : List Caller) → Each (HasOneHolder callers) callers → Each (λ other. new.digest ≡ other.digest → new.id ≡ other.id) callers
    → Each (HasOneHolder (put caller_key new callers)) (put caller_key new callers)
one_holder-put new callers one are =
    Each-put (HasOneHolder (put caller_key new callers)) caller_key new callers
    (Each-both (HasOneHolder callers) (λ other. new.digest ≡ other.digest → new.id ≡ other.id) (HasOneHolder (put caller_key new callers))
    (λ a holds is. Each-put (λ b. a.digest ≡ b.digest → a.id ≡ b.id) caller_key new callers holds (λ same. sym (is (sym same)))) callers one are)
    (Each-put (λ b. new.digest ≡ b.digest → new.id ≡ b.id) caller_key new callers are (λ same. refl))

-- each rule of a list holds
abbrev pub AllHold : List (Rule × Bool) → Type 0
AllHold [] = Unit {0}
AllHold (first ∷ rest) = (first.1 ≡ true) × AllHold rest

-- Each lemma gives the lines that change; `search` takes the others as they are.
put_caller_sound : (new : Caller) (s : State) → IsSound s → IsTrue (has_subject new.role s.riders s.vehicles) → IsTrue (is_nobody_else new.id (caller_with new.digest s))
    → IsTrue (is_some (record_at caller_key new.id s.callers) || nat_lt (length s.callers) most_callers)
    → KeepsRanges (record s { callers = put caller_key new s.callers }) → IsSound (record s { callers = put caller_key new s.callers })
put_caller_sound new s sound subject free room ranges =
    let table = IsTable-put caller_key new s.callers most_callers sound.callers room in
    let holders = one_holder-put new s.callers sound.one_holder_each (holders_are new s.callers sound.one_holder_each free) in
    let subjects = Each-put (HasSubject s.riders s.vehicles) caller_key new s.callers sound.subjects_there subject in
    let kept = Each-weaker (IsOfCaller s.callers) (IsOfCaller (put caller_key new s.callers)) (λ kept there. stays_there caller_key kept.caller new s.callers there) s.kept sound.kept_of_callers in
    let authors = Each-weaker (HasAuthor s.callers) (HasAuthor (put caller_key new s.callers))
    (λ filed there. stays_there caller_key filed.entered.author new s.callers there) s.entries
    sound.authors_there in
    search rules

put_policy_sound : (new : Policy) (s : State) → IsSound s → KeepsRanges (record s { policy = new }) → IsSound (record s { policy = new })
put_policy_sound new s sound ranges = search rules

both_hold : (a b : Bool) → IsTrue (a && b) → IsTrue a × IsTrue b
both_hold true true is = (refl, refl)
both_hold true false is = absurd (cc)
both_hold false b is = absurd (cc)

hold_both : (a b : Bool) → IsTrue a → IsTrue b → IsTrue (a && b)
hold_both true true is also = refl
hold_both true false is also = also
hold_both false b is also = absurd (cc)

-- places that exist still exist
rows_stay : (new : Place) (places : List Place) (rows : List Row) → IsTrue (are_there rows places) → IsTrue (are_there rows (put place_key new places))
rows_stay new places [] are = refl
rows_stay new places (row ∷ rows) are =
    let parts = both_hold (is_some (record_at place_key row.0 places) && is_some (record_at place_key row.1 places)) (are_there rows places) are in
    let ends = both_hold (is_some (record_at place_key row.0 places)) (is_some (record_at place_key row.1 places)) parts.0 in
    hold_both _ _ (hold_both _ _ (stays_there place_key row.0 new places ends.0) (stays_there place_key row.1 new places ends.1)) (rows_stay new places rows parts.1)

put_place_sound : (new : Place) (s : State) → IsSound s → IsTrue (nat_lt (length s.places) most_places)
    → KeepsRanges (record s { places = put place_key new s.places }) → IsSound (record s { places = put place_key new s.places })
put_place_sound new s sound room ranges =
    let table = IsTable-add place_key new s.places most_places sound.places room in
    let depots = Each-weaker (HasDepot s.places) (HasDepot (put place_key new s.places)) (λ version there. stays_there place_key version.depot new s.places there) s.vehicles sound.depots_there in
    let travel = Each-weaker (IsOfPlaces s.places) (IsOfPlaces (put place_key new s.places)) (λ table is. rows_stay new s.places table.rows is) s.travel sound.travel_of_places in
    let ends = Each-weaker (HasPlaces s.places) (HasPlaces (put place_key new s.places))
    (λ trip there. (stays_there place_key trip.wish.from new s.places there.0, stays_there place_key trip.wish.to new s.places there.1)) s.trips sound.trip_places_there in
    search rules

put_route_sound : (new : FixedRoute) (s : State) → IsSound s → IsTrue (is_some (record_at route_key new.id s.routes) || nat_lt (length s.routes) most_routes)
    → KeepsRanges (record s { routes = put route_key new s.routes }) → IsSound (record s { routes = put route_key new s.routes })
put_route_sound new s sound room ranges =
    let table = IsTable-put route_key new s.routes most_routes sound.routes room in
    search rules

subject_stays : (new : Rider) (riders : List Rider) (vehicles : List Vehicle) (role : Role) → IsTrue (has_subject role riders vehicles) → IsTrue (has_subject role (put rider_key new riders) vehicles)
subject_stays new riders vehicles (role.Rider rider) there = stays_there rider_key rider new riders there
subject_stays new riders vehicles role.Clerk there = there
subject_stays new riders vehicles role.Examiner there = there
subject_stays new riders vehicles role.Officer there = there
subject_stays new riders vehicles role.Dispatcher there = there
subject_stays new riders vehicles (role.Driver vehicle) there = there
subject_stays new riders vehicles role.Admin there = there

put_rider_sound : (new : Rider) (s : State) → IsSound s → IsTrue (is_nobody_of_another_kind new.kind (rider_of new.id s))
    → IsTrue (is_some (record_at rider_key new.id s.riders) || nat_lt (length s.riders) most_riders)
    → KeepsRanges (record s { riders = put rider_key new s.riders }) → IsSound (record s { riders = put rider_key new s.riders })
put_rider_sound new s sound free room ranges =
    let table = IsTable-put rider_key new s.riders most_riders sound.riders room in
    let subjects = Each-weaker (HasSubject s.riders s.vehicles) (HasSubject (put rider_key new s.riders) s.vehicles)
    (λ caller there. subject_stays new s.riders s.vehicles caller.role there) s.callers sound.subjects_there
    in
    let files = Each-weaker (HasFiledRider s.riders) (HasFiledRider (put rider_key new s.riders))
    (λ filed there. stays_there rider_key filed.rider new s.riders there) s.entries sound.entries_of_riders in
    let riders = Each-weaker (IsOfRider s.riders) (IsOfRider (put rider_key new s.riders)) (λ trip there. stays_there rider_key trip.rider new s.riders there) s.trips sound.trips_of_riders in
    search rules

-- the positions in a file are below its length
below_length : (n : ℕ) (xs : List FiledEntry) → AreNumberedFrom n xs → Each (λ filed. filed.position < n + length xs) xs
below_length n [] numbered = tt
below_length n (x ∷ xs) numbered =
    let at : x.position ≡ n = numbered.0 in
    let rest = below_length (n + 1) xs numbered.1 in
    (omega arith, Each-weaker (λ filed. filed.position < n + 1 + length xs) (λ filed. filed.position < n + length (x ∷ xs)) (λ filed lt. omega arith) xs rest)

-- one more entry after the others
numbered-more : (n : ℕ) (xs : List FiledEntry) (new : FiledEntry) → AreNumberedFrom n xs → new.position ≡ n + length xs → AreNumberedFrom n (xs ++ new ∷ [])
numbered-more n [] new numbered at = (omega arith, tt)
numbered-more n (x ∷ xs) new numbered at = (numbered.0, numbered-more (n + 1) xs new numbered.1 (omega arith))

in_own_span : (rider position : ℕ) → position < 200 → is_within (pair_key rider position) (span_of rider) ≡ true
in_own_span rider position lt = grind (arith, nat_tests)

in_no_other_span : (rider other position : ℕ) → (rider ≡ other → ⊥) → position < 200 → is_within (pair_key rider position) (span_of other) ≡ false
in_no_other_span rider other position differ lt = grind (arith, nat_tests)

key_below : (x : FiledEntry) (rider n : ℕ) → IsTrue (is_within (entry_key x) (span_of rider)) → x.position < n → entry_key x < pair_key rider n
key_below x rider n in_it lt = grind (arith, nat_tests)

-- a file with one entry more
longer_file : (new : FiledEntry) (xs : List FiledEntry) → IsSoundFile xs → new.position ≡ length xs → length xs < 200 → IsSoundFile (xs ++ new ∷ [])
longer_file new xs file at room =
    let more : length (xs ++ new ∷ []) ≡ length xs + 1 = length-append xs (new ∷ []) in
    record { numbered = numbered-more 0 xs new file.numbered (omega arith); within = omega arith }

own_file : (new : FiledEntry) (entries : List FiledEntry) → IsInOrder entry_key entries
    → IsSoundFile (entries_of new.rider entries) → new.position ≡ length (entries_of new.rider entries)
    → length (entries_of new.rider entries) < 200
    → IsSoundFile (entries_of new.rider (put entry_key new entries))
own_file new entries order file at room =
    let here : new.position < 200 = omega arith in
    let below = Each-both (λ x. IsTrue (is_within (entry_key x) (span_of new.rider))) (λ x. x.position < 0 + length (entries_of new.rider entries)) (λ x. entry_key x < entry_key new)
    (λ x in_it lt. key_below x new.rider new.position in_it (omega arith)) (entries_of new.rider entries)
    (Each-within entry_key (span_of new.rider) entries)
    (below_length 0 (entries_of new.rider entries) file.numbered) in
    subst IsSoundFile (sym (within-put_last entry_key (span_of new.rider) new entries (in_own_span new.rider new.position here) order below))
    (longer_file new (entries_of new.rider entries) file at room)

files_stay : (new : FiledEntry) (entries : List FiledEntry) → IsInOrder entry_key entries
    → ((rider : ℕ) → IsSoundFile (entries_of rider entries)) → new.position ≡ length (entries_of new.rider entries)
    → length (entries_of new.rider entries) < 200
    → (rider : ℕ) → IsSoundFile (entries_of rider (put entry_key new entries))
files_stay new entries order files at room rider =
    let here : new.position < 200 = omega arith in
    elim (same_or_other new.rider rider) [
      | inl same ↦ subst (λ r. IsSoundFile (entries_of r (put entry_key new entries))) same (own_file new entries order (files new.rider) at room)
      | inr other ↦ subst IsSoundFile (sym (within-put_other entry_key (span_of rider) new entries (in_no_other_span new.rider rider new.position other here))) (files rider)
    ]

put_entry_sound : (new : FiledEntry) (s : State) → IsSound s → IsIn rider_key s.riders new.rider
    → IsIn caller_key s.callers new.entered.author → new.position ≡ length (entries_of new.rider s.entries)
    → length (entries_of new.rider s.entries) < 200
    → KeepsRanges (record s { entries = put entry_key new s.entries }) → IsSound (record s { entries = put entry_key new s.entries })
put_entry_sound new s sound rider author at room ranges =
    let order = IsInOrder-put entry_key new s.entries sound.entries_in_order in
    let riders = Each-put (HasFiledRider s.riders) entry_key new s.entries sound.entries_of_riders rider in
    let authors = Each-put (HasAuthor s.callers) entry_key new s.entries sound.authors_there author in
    let files = files_stay new s.entries sound.entries_in_order sound.files at room in
    search rules

-- a file with room has all of its rider's entries
whole_file : (rider : ℕ) (s : State) → length (file_of rider s) < 200 → length (file_of rider s) ≡ length (entries_of rider s.entries)
whole_file rider s room =
    let xs = entries_of rider s.entries in
    let mapped : length (file_of rider s) ≡ length (take 200 xs) = length-map (take 200 xs) (λ filed. filed.entered) in
    let taken : length (take 200 xs) ≡ min 200 (length xs) = length-take 200 xs in
    omega arith

-- a kept request is a write of a caller who exists
abbrev IsKeptIn : List Caller → Kept → Type 0
IsKeptIn callers kept = IsIn caller_key callers kept.caller × IsKeptWrite kept

numbered_sound : (kept : Kept) (s : State) → IsSound s → FitsKept kept → IsKeptIn s.callers kept → IsSound (record s { kept = put kept_key kept s.kept })
numbered_sound kept s sound fits (there, write) =
    let ranges = kept_in_range kept s fits sound.ranges in
    let order = IsInOrder-put kept_key kept s.kept sound.kept_in_order in
    let callers = Each-put (IsOfCaller s.callers) kept_key kept s.kept sound.kept_of_callers there in
    let writes = Each-put IsKeptWrite kept_key kept s.kept sound.kept_writes write in
    search rules

holds_first : (name : Rule) (holds : Bool) (rest : List (Rule × Bool)) → first_failing ((name, holds) ∷ rest) ≡ None → (holds ≡ true) × (first_failing rest ≡ None)
holds_first name true rest none = (refl, none)
holds_first name false rest none = absurd (cc)

pub all_hold : (ordered : List (Rule × Bool)) → first_failing ordered ≡ None → AllHold ordered
all_hold [] none = tt
all_hold (first ∷ rest) none = let here = holds_first first.0 first.1 rest none in (here.0, all_hold rest here.1)

enter_sound : (rider : ℕ) (entry : Entry) (me : Caller) (now : Moment) (s : State) → IsSound s
    → IsIn caller_key s.callers me.id → AllHold (rules_of (write.Enter rider entry) me now
    (facts_of (write.Enter rider entry) s))
    → KeepsRanges (record s { entries = put entry_key (record { rider = rider; position = length (file_of rider s); entered = record { entry = entry; day = now.0; author = me.id } }) s.entries })
    → IsSound (record s { entries = put entry_key (record { rider = rider; position = length (file_of rider s); entered = record { entry = entry; day = now.0; author = me.id } }) s.entries })
enter_sound rider entry me now s sound there hold ranges =
    let room = below_is (length (file_of rider s)) 200 hold.1.1.0 in
    let whole = whole_file rider s room in
    put_entry_sound (record { rider = rider; position = length (file_of rider s); entered = record { entry = entry; day = now.0; author = me.id } }) s sound
    hold.1.0 there whole (omega arith) ranges

driver_stays : (new : Vehicle) (riders : List Rider) (vehicles : List Vehicle) (role : Role) → HasFirstDay new → Each HasFirstDay vehicles → IsTrue (has_subject role riders vehicles)
    → IsTrue (has_subject role riders (put vehicle_key new (take_away vehicle_key (versions_from new.id new.from_day) vehicles)))
driver_stays new riders vehicles (role.Rider rider) day days there = there
driver_stays new riders vehicles role.Clerk day days there = there
driver_stays new riders vehicles role.Examiner day days there = there
driver_stays new riders vehicles role.Officer day days there = there
driver_stays new riders vehicles role.Dispatcher day days there = there
driver_stays new riders vehicles (role.Driver vehicle) day days there = version_stays new vehicle vehicles day days there
driver_stays new riders vehicles role.Admin day days there = there

pub not_true : (b : Bool) → not b ≡ true → b ≡ false
not_true true is = absurd (cc)
not_true false is = refl

put_vehicle_sound : (new : Vehicle) (s : State) → IsSound s → HasFirstDay new
    → HasDepot s.places new → is_booked_from (Some new.id) new.from_day s.trips ≡ false
    → IsTrue (has_room_for new s.vehicles)
    → KeepsRanges (record s { vehicles = put vehicle_key new (take_away vehicle_key (versions_from new.id new.from_day) s.vehicles) })
    → IsSound (record s { vehicles = put vehicle_key new (take_away vehicle_key (versions_from new.id new.from_day) s.vehicles) })
put_vehicle_sound new s sound day depot free room ranges =
    let kept = λ (version : Vehicle). not (is_within (vehicle_key version) (versions_from new.id new.from_day)) in
    let left = filter kept s.vehicles in
    let rooms = both_hold (nat_lt (length (versions_before new.id new.from_day s.vehicles)) 20) (nat_lt (vehicle_count (versions_of_others new.id s.vehicles)) 50) room in
    let order = IsInOrder-put vehicle_key new left (IsInOrder-filter vehicle_key kept s.vehicles sound.vehicles_in_order) in
    let fit = vehicle_fits new s sound day free in
    let drive = each_drive (put vehicle_key new left) s.travel s.trips s.planned fit in
    let load = each_load (put vehicle_key new left) s.travel s.trips s.planned fit in
    let depots = Each-put (HasDepot s.places) vehicle_key new left (Each-filter (HasDepot s.places) kept s.vehicles sound.depots_there) depot in
    let fleet = fleet_stays new s.vehicles day (first_days s sound) sound.fleet (below_is _ 20 rooms.0) (below_is _ 50 rooms.1) in
    let subjects = Each-weaker (HasSubject s.riders s.vehicles) (HasSubject s.riders (put vehicle_key new left))
    (λ caller there. driver_stays new s.riders s.vehicles caller.role day (first_days s sound) there)
    s.callers sound.subjects_there in
    search rules

put_travel_sound : (new : TravelTable) (s : State) → IsSound s → IsOfPlaces s.places new
    → is_booked_from None new.from_day s.trips ≡ false
    → IsTrue (nat_lt (length (tables_before new.from_day s.travel)) most_tables)
    → KeepsRanges (record s { travel = put travel_key new (take_away travel_key (tables_from new.from_day) s.travel) })
    → IsSound (record s { travel = put travel_key new (take_away travel_key (tables_from new.from_day) s.travel) })
put_travel_sound new s sound is free room ranges =
    let fit = travel_fits new s sound free in
    let drive = each_drive s.vehicles (put travel_key new (tables_before new.from_day s.travel)) s.trips s.planned fit in
    let table = IsTable-replace travel_key (tables_from new.from_day) new s.travel most_tables sound.travel room in
    let of_places = Each-put (IsOfPlaces s.places) travel_key new (tables_before new.from_day s.travel)
    (Each-filter (IsOfPlaces s.places) (λ table. not (is_within (travel_key table) (tables_from new.from_day))) s.travel sound.travel_of_places) is in
    search rules

accepted_sound : (s : State) (decided : Decision) (told : Answer) (change : Change) → IsSound s → decided ≡ Accepted told change → PutsInRangeIf decided
    → (KeepsRanges (applied change s) → IsSound (applied change s)) → IsSound (state_after (left_of decided s) s)
accepted_sound s decided told change before is puts sound =
    subst (λ d. IsSound (state_after (left_of d s) s)) (sym is) (sound (ranges_kept change s (subst PutsInRangeIf is puts) before.ranges))

-- a later number is given, and no trip had it
numbered_on : (last next : ℕ) → last ≤ next → (trips : List Trip) → Each (IsNumberedTo last) trips → Each (IsNumberedTo next) trips
numbered_on last next le trips numbered = Each-weaker (IsNumberedTo last) (IsNumberedTo next) (λ trip below. omega arith) trips numbered

-- the records that a trip names exist
abbrev IsThere : State → Trip → Type 0
IsThere s trip = IsOfRider s.riders trip × HasPlaces s.places trip

book_sound : (trip : Trip) (plan : Plan) (s : State) → IsSound s → trip.id ≡ s.last_trip + 1 → IsThere s trip → IsRoutePlan plan → HasStandingTrips (put trip_key trip s.trips) plan
    → Each (IsPlanned (put plan_key plan s.planned)) (put trip_key trip s.trips)
    → HasStops plan → FitsIn s.vehicles s.travel (put trip_key trip s.trips) plan
    → KeepsRanges (record s { trips = put trip_key trip s.trips; planned = put plan_key plan s.planned; last_trip = trip.id })
    → IsSound (record s { trips = put trip_key trip s.trips; planned = put plan_key plan s.planned; last_trip = trip.id })
book_sound trip plan s sound is there route standing planned_all some fits ranges =
    let have_stops = Each-put HasStops plan_key plan s.planned sound.planned_have_stops some in
    let fit = Each-put (FitsIn s.vehicles s.travel (put trip_key trip s.trips)) plan_key plan s.planned
    (fit_after trip s sound is) fits in
    let drive = each_drive s.vehicles s.travel (put trip_key trip s.trips) (put plan_key plan s.planned) fit in
    let load = each_load s.vehicles s.travel (put trip_key trip s.trips) (put plan_key plan s.planned) fit in
    let trips = IsInOrder-put trip_key trip s.trips sound.trips_in_order in
    let numbered = Each-put (IsNumberedTo trip.id) trip_key trip s.trips (numbered_on s.last_trip trip.id (omega arith) s.trips sound.trips_numbered) (omega arith) in
    let planned = IsInOrder-put plan_key plan s.planned sound.planned_in_order in
    let routes = Each-put IsRoutePlan plan_key plan s.planned sound.planned_routes route in
    let stand = Each-put (HasStandingTrips (put trip_key trip s.trips)) plan_key plan s.planned
    (plans_after s.last_trip s.trips trip s.planned is sound.trips_numbered sound.planned_trips_stand) standing in
    let riders = Each-put (IsOfRider s.riders) trip_key trip s.trips sound.trips_of_riders there.0 in
    let ends = Each-put (HasPlaces s.places) trip_key trip s.trips sound.trip_places_there there.1 in
    search rules

put_all_order : (plans : List Plan) (there : List Plan) → IsInOrder plan_key there → IsInOrder plan_key (put_all plan_key plans there)
put_all_order [] there order = order
put_all_order (plan ∷ plans) there order = put_all_order plans (put plan_key plan there) (IsInOrder-put plan_key plan there order)

-- the rest of a plan is a route, and so is a plan that is put with it
left_routes : (trip : Trip) (stops : List PlannedStop) → IsPlannedRoute stops → Each IsRoutePlan (plan_of_stops trip stops)
left_routes trip [] route = tt
left_routes trip (stop ∷ later) route = (route, tt)

edit_sound : (trip : Trip) (away : Span) (plans : List Plan) (s : State) → IsSound s → trip.id ≤ s.last_trip → IsThere s trip → Each IsRoutePlan plans
    → Each (HasStandingTrips (put trip_key trip s.trips)) plans → Each (HasStandingTrips (put trip_key trip s.trips)) (take_away plan_key away s.planned)
    → Each (IsPlanned (put_all plan_key plans (take_away plan_key away s.planned)))
    (put trip_key trip s.trips) → Each HasStops plans
    → Each (FitsIn s.vehicles s.travel (put trip_key trip s.trips)) plans
    → Each (FitsIn s.vehicles s.travel (put trip_key trip s.trips)) (take_away plan_key away s.planned)
    → KeepsRanges (record s { trips = put trip_key trip s.trips; planned = put_all plan_key plans (take_away plan_key away s.planned) })
    → IsSound (record s { trips = put trip_key trip s.trips; planned = put_all plan_key plans (take_away plan_key away s.planned) })
edit_sound trip away plans s sound below there new standing beside planned_all some fits fits_beside ranges =
    let have_stops = each-put HasStops plan_key plans (take_away plan_key away s.planned) some
    (Each-filter HasStops (λ plan. not (is_within (plan_key plan) away)) s.planned sound.planned_have_stops) in
    let fit = each-put (FitsIn s.vehicles s.travel (put trip_key trip s.trips)) plan_key plans
    (take_away plan_key away s.planned) fits fits_beside in
    let drive = each_drive s.vehicles s.travel (put trip_key trip s.trips)
    (put_all plan_key plans (take_away plan_key away s.planned)) fit in
    let load = each_load s.vehicles s.travel (put trip_key trip s.trips)
    (put_all plan_key plans (take_away plan_key away s.planned)) fit in
    let trips = IsInOrder-put trip_key trip s.trips sound.trips_in_order in
    let numbered = Each-put (IsNumberedTo s.last_trip) trip_key trip s.trips sound.trips_numbered below in
    let planned = put_all_order plans (take_away plan_key away s.planned) (IsInOrder-filter plan_key (λ plan. not (is_within (plan_key plan) away)) s.planned sound.planned_in_order) in
    let stand = each-put (HasStandingTrips (put trip_key trip s.trips)) plan_key plans (take_away plan_key away s.planned) standing beside in
    let routes = each-put IsRoutePlan plan_key plans (take_away plan_key away s.planned) new (Each-filter IsRoutePlan (λ plan. not (is_within (plan_key plan) away)) s.planned sound.planned_routes) in
    let riders = Each-put (IsOfRider s.riders) trip_key trip s.trips sound.trips_of_riders there.0 in
    let ends = Each-put (HasPlaces s.places) trip_key trip s.trips sound.trip_places_there there.1 in
    search rules

-- the stops of a plan without a trip are a route
left_there : (trip : Trip) (s : State) → IsSound s → IsPlannedRoute (without trip.id (stops_of_plan (plan_for (Some trip) s)))
left_there trip s sound = left_route trip.id (stops_of_plan (plan_for (Some trip) s)) (planned_route trip.vehicle trip.wish.day s.planned sound.planned_routes)

-- a trip that is booked for a day has a route in its plan
booked_there : (minutes : ℕ → ℕ → Option ℕ) (number day : ℕ) (request : request_of.Request) (trip : Trip) (plan : Plan) (s : State) → IsSound s → request.trip ≡ number
    → IsBookedIn minutes (routes_on number day s) request trip plan → IsRoutePlan plan
booked_there minutes number day request trip plan s sound is booked =
    booked_route minutes day (trips_on day s.trips) (planned_on day s.planned) (on_duty day s.vehicles) request trip plan
    (Each-filter IsRoutePlan (λ plan. plan.day == day) s.planned sound.planned_routes)
    (subst (λ (n : ℕ). IsBookedIn minutes (routes_on n day s) request trip plan) (sym is) booked)

-- the trips of its plan are not cancelled
booked_stand : (minutes : ℕ → ℕ → Option ℕ) (number day : ℕ) (request : request_of.Request) (trip : Trip) (plan : Plan) (s : State) → IsSound s → request.trip ≡ number → trip.wish.day ≡ day
    → IsBookedIn minutes (routes_on number day s) request trip plan → HasStandingTrips (put trip_key trip s.trips) plan
booked_stand minutes number day request trip plan s sound is on booked =
    let (vehicle, of_day, standing) = booked_plan minutes (routes_on number day s) request trip plan booked in
    booked_trips (λ (n : ℕ). StandsIn (put trip_key trip s.trips) (plan_key plan) n) minutes day (trips_on day s.trips) (planned_on day s.planned) (on_duty day s.vehicles) request trip plan
    (put_stands s.trips trip (plan_key plan) standing (rw (vehicle, of_day) refl))
    (subst (λ (d : ℕ). Each (λ (stop : PlannedStop). StandsIn (put trip_key trip s.trips) (pair_key plan.vehicle d)
    stop.trip) (without request.trip (planned_stops plan.vehicle day (planned_on day s.planned))))
    (sym on ∙ of_day)
    (standing_without s.trips trip request.trip plan.vehicle day (planned_on day s.planned) booked.1.trip_of.number
    (Each-filter (HasStandingTrips s.trips) (λ plan. plan.day == day) s.planned sound.planned_trips_stand)))
    (subst (λ (n : ℕ). IsBookedIn minutes (routes_on n day s) request trip plan) (sym is) booked)

-- the records that a booked trip names exist
booked_is_there : (minutes : ℕ → ℕ → Option ℕ) (number day rider : ℕ) (wish : Wish) (request : request_of.Request) (trip : Trip) (plan : Plan) (s : State) → request.trip ≡ number
    → rider_of rider s ≡ Some request.rider → record_at place_key wish.from s.places ≡ Some request.from → record_at place_key wish.to s.places ≡ Some request.to → request.wish ≡ wish
    → IsBookedIn minutes (routes_on number day s) request trip plan → IsThere s trip
booked_is_there minutes number day rider wish request trip plan s is there from to wished booked =
    let of_request : trip.wish ≡ wish = booked.1.trip_of.wish ∙ wished in (
      subst (IsIn rider_key s.riders) (sym booked.1.trip_of.rider) (found_by_key rider_key (λ r. rider_key r == rider) request.rider s.riders there),
      subst (λ (w : Wish). IsIn place_key s.places w.from × IsIn place_key s.places w.to) (sym of_request) (ap is_some from, ap is_some to),
    )

-- the facts about each stored trip
abbrev IsKept : State → Trip → Type 0
IsKept s trip = (record_at trip_key trip.id s.trips ≡ Some trip) × HasDay trip × IsPlanned s.planned trip × IsNumberedTo s.last_trip trip

kept_each : (s : State) → IsSound s → Each (IsKept s) s.trips
kept_each s sound =
    Each-both (λ (t : Trip). record_at trip_key t.id s.trips ≡ Some t) (λ (t : Trip). HasDay t × IsPlanned s.planned t × IsNumberedTo s.last_trip t) (IsKept s)
    (λ t found rest. (found, rest.0, rest.1, rest.2)) s.trips (each_found s.trips sound.trips_in_order)
    (Each-both HasDay (λ (t : Trip). IsPlanned s.planned t × IsNumberedTo s.last_trip t) (λ (t : Trip). HasDay t × IsPlanned s.planned t × IsNumberedTo s.last_trip t)
    (λ t day rest. (day, rest.0, rest.1)) s.trips (trip_days s sound)
    (Each-both (IsPlanned s.planned) (IsNumberedTo s.last_trip) (λ (t : Trip). IsPlanned s.planned t × IsNumberedTo s.last_trip t) (λ t planned below. (planned, below)) s.trips
    sound.standing_planned sound.trips_numbered))

-- the plan of a booked trip has each other trip of its vehicle and day that is not cancelled
booked_keeps_others : (minutes : ℕ → ℕ → Option ℕ) (number day : ℕ) (request : request_of.Request) (trip : Trip)
    (plan : Plan) (s : State) (other : Trip) → IsSound s → request.trip ≡ number → trip.id ≡ number
    → trip.wish.day ≡ day → IsDay day → (other.id ≡ trip.id → ⊥) → IsKept s other → IsTrue (stands other.status) → IsBookedIn minutes (routes_on number day s) request trip plan
    → pair_key other.vehicle other.wish.day ≡ plan_key plan → has_trip other.id plan.stops ≡ true
booked_keeps_others minutes number day request trip plan s other sound is own on is_day differ kept standing booked same =
    let (vehicle, of_day, stand) = booked_plan minutes (routes_on number day s) request trip plan booked in
    let plan_day : plan.day ≡ day = sym of_day ∙ on in
    let place = same_place other plan kept.1 (subst IsDay (sym plan_day) is_day) same in
    let other_day : other.wish.day ≡ day = place.1 ∙ plan_day in
    let there : has_trip other.id (planned_stops plan.vehicle day s.planned) ≡ true
    = ap (λ (v : ℕ). has_trip other.id (planned_stops v day s.planned)) (sym place.0) ∙ ap (λ (d : ℕ). has_trip other.id (planned_stops other.vehicle d s.planned)) (sym other_day) ∙ kept.2 standing in
    booked_keeps minutes day (trips_on day s.trips) (planned_on day s.planned) (on_duty day s.vehicles) request trip plan other (λ alike. differ (sym alike))
    (trip_on day other s.trips other_day kept.0)
    (left_has other.id request.trip (planned_stops plan.vehicle day (planned_on day s.planned))
    (λ alike. differ (alike ∙ is ∙ sym own)) (has_on plan.vehicle day other.id s.planned is_day
    (planned_days s sound) there))
    (subst (λ (n : ℕ). IsBookedIn minutes (routes_on n day s) request trip plan) (sym is) booked)

-- it has the trip itself
booked_has_own : (minutes : ℕ → ℕ → Option ℕ) (number day : ℕ) (request : request_of.Request) (trip : Trip) (plan : Plan) (s : State) → request.trip ≡ number → trip.id ≡ number
    → IsBookedIn minutes (routes_on number day s) request trip plan → has_trip trip.id plan.stops ≡ true
booked_has_own minutes number day request trip plan s is own booked =
    booked_has minutes day (trips_on day s.trips) (planned_on day s.planned) (on_duty day s.vehicles) request trip plan (own ∙ sym is)
    (subst (λ (n : ℕ). IsBookedIn minutes (routes_on n day s) request trip plan) (sym is) booked)

key_of_plan : (trip : Trip) (plan : Plan) → trip.vehicle ≡ plan.vehicle → trip.wish.day ≡ plan.day → pair_key trip.vehicle trip.wish.day ≡ plan_key plan
key_of_plan trip plan vehicle day = rw (vehicle, day) refl

next_number : (last id next : ℕ) → id ≤ last → next ≡ last + 1 → id ≡ next → ⊥
next_number last id next below is same = omega arith

-- with a booked trip, each trip that is not cancelled is planned
book_planned : (minutes : ℕ → ℕ → Option ℕ) (day : ℕ) (request : request_of.Request) (trip : Trip) (plan : Plan) (s : State) → IsSound s → request.trip ≡ s.last_trip + 1 → trip.id ≡ s.last_trip + 1
    → trip.wish.day ≡ day → IsDay day → IsBookedIn minutes (routes_on (s.last_trip + 1) day s) request trip plan → Each (IsPlanned (put plan_key plan s.planned)) (put trip_key trip s.trips)
book_planned minutes day request trip plan s sound is own on is_day booked =
    let (vehicle, of_day, stand) = booked_plan minutes (routes_on (s.last_trip + 1) day s) request trip plan booked in
    Each-put (IsPlanned (put plan_key plan s.planned)) trip_key trip s.trips
    (Each-weaker (IsKept s) (IsPlanned (put plan_key plan s.planned))
    (λ t kept standing. stays_beside t plan s.planned
    (booked_keeps_others minutes (s.last_trip + 1) day request trip plan s t sound is own on is_day (next_number s.last_trip t.id trip.id kept.3 own) kept standing booked) (kept.2 standing))
    s.trips (kept_each s sound))
    (λ standing. put_planned trip plan s.planned (key_of_plan trip plan vehicle of_day) (booked_has_own minutes (s.last_trip + 1) day request trip plan s is own booked))

one_more_put : (old : Trip) (left : List PlannedStop) (plan : Plan) (there : List Plan)
    → put_all plan_key (plan_of_stops old left ++ plan ∷ []) there ≡ put plan_key plan (put_all plan_key (plan_of_stops old left) there)
one_more_put old [] plan there = refl
one_more_put old (stop ∷ later) plan there = refl

abbrev left_of_trip : Trip → State → List PlannedStop
left_of_trip old s = without old.id (planned_stops old.vehicle old.wish.day s.planned)

-- the same with a changed trip
change_planned : (minutes : ℕ → ℕ → Option ℕ) (day : ℕ) (request : request_of.Request) (old trip : Trip) (plan : Plan) (s : State) → IsSound s → HasDay old → request.trip ≡ old.id → trip.id ≡ old.id
    → trip.wish.day ≡ day → IsDay day → IsBookedIn minutes (routes_on old.id day s) request trip plan
    → Each (IsPlanned (put_all plan_key (plan_of_stops old (left_of_trip old s) ++ plan ∷ []) (take_away plan_key (plan_span old) s.planned))) (put trip_key trip s.trips)
change_planned minutes day request old trip plan s sound old_day is own on is_day booked =
    let (vehicle, of_day, stand) = booked_plan minutes (routes_on old.id day s) request trip plan booked in
    let there = plans_left old (left_of_trip old s) s.planned in
    subst (λ plans. Each (IsPlanned plans) (put trip_key trip s.trips)) (sym (one_more_put old (left_of_trip old s) plan (take_away plan_key (plan_span old) s.planned)))
    (Each-put_over (IsPlanned (put plan_key plan there)) trip_key trip s.trips sound.trips_in_order
    (Each-weaker (IsKept s) (λ (t : Trip). (t.id ≡ trip.id → ⊥) → IsPlanned (put plan_key plan there) t)
    (λ t kept differ standing. stays_beside t plan there
    (booked_keeps_others minutes old.id day request trip plan s t sound is own on is_day differ kept standing booked)
    (stays_planned old t s.planned old_day kept.1 (λ alike. differ (alike ∙ sym own)) (kept.2 standing)))
    s.trips (kept_each s sound))
    (λ standing. put_planned trip plan there (key_of_plan trip plan vehicle of_day) (booked_has_own minutes old.id day request trip plan s is own booked)))

-- the same with a cancelled trip
cancel_planned : (trip : Trip) (s : State) → IsSound s → HasDay trip
    → Each (IsPlanned (put_all plan_key (plan_of_stops trip (left_of_trip trip s)) (take_away plan_key (plan_span trip) s.planned))) (put trip_key (cancelled trip) s.trips)
cancel_planned trip s sound day =
    Each-put_over (IsPlanned (plans_left trip (left_of_trip trip s) s.planned)) trip_key (cancelled trip) s.trips sound.trips_in_order
    (Each-weaker (IsKept s) (λ (t : Trip). (t.id ≡ trip.id → ⊥) → IsPlanned (plans_left trip (left_of_trip trip s) s.planned) t)
    (λ t kept differ standing. stays_planned trip t s.planned day kept.1 differ (kept.2 standing)) s.trips (kept_each s sound))
    (λ standing. absurd (cc))

pub on_day : (request : request_of.Request) (trip : Trip) (wish : Wish) → trip.wish ≡ request.wish → request.wish ≡ wish → trip.wish.day ≡ wish.day
on_day request trip wish is wished = ap (λ (w : Wish). w.day) (is ∙ wished)

-- a trip that is found is found by its own number
found_again : (id : ℕ) (trip : Trip) (trips : List Trip) → record_at trip_key id trips ≡ Some trip → record_at trip_key trip.id trips ≡ Some trip
found_again id trip trips found = subst (λ (n : ℕ). record_at trip_key n trips ≡ Some trip) (sym (found_key trip_key id trip trips found)) found

booking_sound : (today : ℕ) (rider : ℕ) (wish : Wish) (s : State) (decided : Decision) → IsSound s
    → IsDay wish.day → PutsInRangeIf decided → IsBooking booked (s.last_trip + 1) None today wish (facts_of (write.Book rider wish) s) decided → IsSound (state_after (left_of decided s) s)
booking_sound today rider wish s decided sound is_day puts (scheduled.Denied rule, by, is) = subst (λ d. IsSound (state_after (left_of d s) s)) (sym is) sound
booking_sound today rider wish s decided sound is_day puts (scheduled.Booked trip plan, (request, asked, (minutes, times, (none, (chosen, at)))), (told, confirms, is)) =
    let on = on_day request trip wish at.trip_of.wish asked.wished in
    let own : trip.id ≡ s.last_trip + 1 = at.trip_of.number ∙ asked.trip in
    accepted_sound s decided _ _ sound is puts (λ ranges.
    book_sound trip plan s sound own
    (booked_is_there minutes (s.last_trip + 1) wish.day rider wish request trip plan s asked.trip asked.rider asked.from asked.to asked.wished (chosen, at))
    (booked_there minutes (s.last_trip + 1) wish.day request trip plan s sound asked.trip (chosen, at))
    (booked_stand minutes (s.last_trip + 1) wish.day request trip plan s sound asked.trip on (chosen, at))
    (book_planned minutes wish.day request trip plan s sound asked.trip own on is_day (chosen, at))
    (has_stops trip.id plan.stops (booked_has_own minutes (s.last_trip + 1) wish.day request trip plan s asked.trip
    own (chosen, at)))
    (booked_fits minutes (s.last_trip + 1) wish.day request trip plan s sound asked.trip on is_day times
    (chosen, at)) ranges)

change_trip_sound : (today : ℕ) (found : Option Trip) (id : ℕ) (wish : Wish) (s : State) (decided : Decision) → IsSound s
    → IsDay wish.day → PutsInRangeIf decided → trip_of id s ≡ found → IsChangeDecided found wish today (change_facts found wish s) decided → IsSound (state_after (left_of decided s) s)
change_trip_sound today None id wish s decided sound is_day puts found changes = absurd changes
change_trip_sound today (Some old) id wish s decided sound is_day puts found (scheduled.Denied rule, by, is) = subst (λ d. IsSound (state_after (left_of d s) s)) (sym is) sound
change_trip_sound today (Some old) id wish s decided sound is_day puts found (scheduled.Booked trip plan, (request, asked, (minutes, times, (none, (chosen, at)))), (told, confirms, is)) =
    let left = without old.id (stops_of_plan (plan_for (Some old) s)) in
    let new = Each-more IsRoutePlan (plan_of_stops old left) plan (left_routes old left (left_there old s sound))
    (booked_there minutes old.id wish.day request trip plan s sound asked.trip (chosen, at)) in
    let number : trip.id ≡ old.id = at.trip_of.number ∙ asked.trip in
    let on = on_day request trip wish at.trip_of.wish asked.wished in
    let old_day : HasDay old = Each-found HasDay trip_key id old s.trips (trip_days s sound) found in
    let here : record_at trip_key old.id s.trips ≡ Some old = found_again id old s.trips found in
    let standing = Each-more (HasStandingTrips (put trip_key trip s.trips)) (plan_of_stops old left) plan
    (left_standing (put trip_key trip s.trips) old left (standing_without s.trips trip old.id old.vehicle old.wish.day s.planned number sound.planned_trips_stand))
    (booked_stand minutes old.id wish.day request trip plan s sound asked.trip (on_day request trip wish at.trip_of.wish asked.wished) (chosen, at)) in
    let below = subst (λ (n : ℕ). n ≤ s.last_trip) (sym (at.trip_of.number ∙ asked.trip)) (Each-found (IsNumberedTo s.last_trip) trip_key id old s.trips sound.trips_numbered found) in
    accepted_sound s decided _ _ sound is puts (λ ranges.
    edit_sound trip (plan_span old) (plan_of_stops old left ++ plan ∷ []) s sound below
    (booked_is_there minutes old.id wish.day old.rider wish request trip plan s asked.trip asked.rider asked.from asked.to asked.wished (chosen, at)) new standing
    (plans_beside s.trips old trip s.planned number here sound.planned_trips_stand)
    (change_planned minutes wish.day request old trip plan s sound old_day asked.trip number on is_day (chosen, at))
    (Each-more HasStops (plan_of_stops old left) plan (left_has_stops old left)
    (has_stops trip.id plan.stops (booked_has_own minutes old.id wish.day request trip plan s asked.trip number
    (chosen, at))))
    (Each-more (FitsIn s.vehicles s.travel (put trip_key trip s.trips)) (plan_of_stops old left) plan
    (left_fits old trip s sound old_day number)
    (booked_fits minutes old.id wish.day request trip plan s sound asked.trip on is_day times (chosen, at)))
    (fit_beside old trip s sound number here) ranges)

cancel_sound : (found : Option Trip) (id : ℕ) (s : State) (decided : Decision) → IsSound s
    → PutsInRangeIf decided → trip_of id s ≡ found → IsCancelDecided found (cancel_facts found s) decided → IsSound (state_after (left_of decided s) s)
cancel_sound None id s decided sound puts found cancels = absurd cancels
cancel_sound (Some trip) id s decided sound puts found is =
    let left = without trip.id (stops_of_plan (plan_for (Some trip) s)) in
    accepted_sound s decided _ _ sound is puts (λ ranges.
    edit_sound (cancelled trip) (plan_span trip) (plan_of_stops trip left) s sound
    (Each-found (IsNumberedTo s.last_trip) trip_key id trip s.trips sound.trips_numbered found) (
      Each-found (IsOfRider s.riders) trip_key id trip s.trips sound.trips_of_riders found,
      Each-found (HasPlaces s.places) trip_key id trip s.trips sound.trip_places_there found,
    )
    (left_routes trip left (left_there trip s sound))
    (left_standing (put trip_key (cancelled trip) s.trips) trip left
    (standing_without s.trips (cancelled trip) trip.id trip.vehicle trip.wish.day s.planned refl sound.planned_trips_stand))
    (plans_beside s.trips trip (cancelled trip) s.planned refl (found_again id trip s.trips found) sound.planned_trips_stand)
    (cancel_planned trip s sound (Each-found HasDay trip_key id trip s.trips (trip_days s sound) found))
    (left_has_stops trip left) (left_fits trip (cancelled trip) s sound
    (Each-found HasDay trip_key id trip s.trips (trip_days s sound) found) refl)
    (fit_beside trip (cancelled trip) s sound refl (found_again id trip s.trips found)) ranges)

outcome_sound : (outcome : Outcome) (found : Option Trip) (id : ℕ) (s : State) (decided : Decision) → IsSound s
    → PutsInRangeIf decided → trip_of id s ≡ found → IsTrue (awaits_outcome found) → IsEndDecided found outcome decided → IsSound (state_after (left_of decided s) s)
outcome_sound outcome None id s decided sound puts found booked ends = absurd ends
outcome_sound outcome (Some trip) id s decided sound puts found booked is =
    accepted_sound s decided _ _ sound is puts (λ ranges. end_sound outcome id trip s sound found booked ranges)

-- the facts of a change have the trip, if it exists
pub change_trip : (found : Option Trip) (wish : Wish) (s : State) → (change_facts found wish s).booking.trip ≡ found
change_trip None wish s = refl
change_trip (Some trip) wish s = refl

-- an accepted write leaves a sound state
decided_sound : (asked : Write) (me : Caller) (now : Moment) (s : State) (made : Decision) → IsSound s → IsIn caller_key s.callers me.id → AllHold (rules_of asked me now (facts_of asked s))
    → IsDecidedBy asked me.id now.0 (facts_of asked s) made → IsRequest asked → PutsInRangeIf made → IsSound (state_after (left_of made s) s)
decided_sound (write.PutCaller new) me now s made sound there hold is asked puts =
    accepted_sound s made _ _ sound is puts (λ ranges. put_caller_sound new s sound hold.1.0 hold.1.1.0 hold.1.1.1.0 ranges)
decided_sound (write.PutPolicy new) me now s made sound there hold is asked puts =
    accepted_sound s made _ _ sound is puts (λ ranges. put_policy_sound new s sound ranges)
decided_sound (write.PutPlace new) me now s made sound there hold is asked puts =
    accepted_sound s made _ _ sound is puts (λ ranges. put_place_sound new s sound hold.1.1.0 ranges)
decided_sound (write.PutRoute new) me now s made sound there hold is asked puts =
    accepted_sound s made _ _ sound is puts (λ ranges. put_route_sound new s sound hold.1.0 ranges)
decided_sound (write.PutRider new) me now s made sound there hold is asked puts =
    accepted_sound s made _ _ sound is puts (λ ranges. put_rider_sound new s sound hold.1.0 hold.1.1.0 ranges)
decided_sound (write.Enter rider entry) me now s made sound there hold is asked puts =
    accepted_sound s made _ _ sound is puts (λ ranges. enter_sound rider entry me now s sound there hold ranges)
decided_sound (write.PutVehicle new) me now s made sound there hold is asked puts =
    accepted_sound s made _ _ sound is puts
    (λ ranges. put_vehicle_sound new s sound asked.from_day hold.1.0
    (not_true (is_booked_from (Some new.id) new.from_day s.trips) hold.1.1.0) hold.1.1.1.0 ranges)
decided_sound (write.Travel day rows) me now s made sound there hold is asked puts =
    accepted_sound s made _ _ sound is puts
    (λ ranges. put_travel_sound (record { from_day = day; rows = rows }) s sound
    hold.1.0 (not_true (is_booked_from None day s.trips) hold.1.1.0) hold.1.1.1.0 ranges)
decided_sound (write.Book rider wish) me now s made sound there hold is asked puts =
    booking_sound now.0 rider wish s made sound asked.1.day puts is
decided_sound (write.Change trip wish) me now s made sound there hold is asked puts =
    change_trip_sound now.0 (trip_of trip s) trip wish s made sound asked.1.day puts refl
    (subst (λ f. IsChangeDecided f wish now.0 (facts_of (write.Change trip wish) s) made) (change_trip (trip_of trip s) wish s) is)
decided_sound (write.Cancel trip) me now s made sound there hold is asked puts =
    cancel_sound (trip_of trip s) trip s made sound puts refl is
decided_sound (write.Outcome trip outcome) me now s made sound there hold is asked puts =
    outcome_sound outcome (trip_of trip s) trip s made sound puts refl hold.1.1.0 is

-- a caller who exists still exists
caller_stays : (asked : Write) (id : ℕ) (callers : List Caller) → IsIn caller_key callers id → IsIn caller_key (edited caller_key (callers_by asked) callers) id
caller_stays (write.PutCaller new) id callers there = stays_there caller_key id new callers there
caller_stays _ id callers there = there

-- the kept request leaves a sound state, since nothing else changes
kept_sound : (asked : Write) (me : ℕ) (sent : Sent) (s : State) (made : Decision) → IsIn caller_key s.callers me → ((reply : KeptReply) → IsKeptWrite (kept_by me sent reply))
    → Makes (callers_by asked) made → PutsInRangeIf (with_kept me sent made) → IsSound (state_after (left_of made s) s) → IsSound (state_after (left_of (with_kept me sent made) s) s)
kept_sound asked me sent s (Denied first) there write makes puts sound = sound
kept_sound asked me sent s (Accepted told change) there write makes puts sound =
    let kept = kept_by me sent (unwrap_or (reply_of told) reply.Done) in
    let stays = subst (λ edit. IsIn caller_key (edited caller_key edit s.callers) me) (sym makes.1) (caller_stays asked me s.callers there) in
    subst (λ edit. IsSound (record (applied change s) { kept = put kept_key kept (edited kept_key edit s.kept) })) makes.0
    (numbered_sound kept (applied change s) sound (puts.parts part.kept).0 (stays, write (unwrap_or (reply_of told) reply.Done)))

made_in_range : (asked : Write) (me : ℕ) (sent : Sent) (made : Decision) → Makes (callers_by asked) made → PutsInRangeIf (with_kept me sent made) → PutsInRangeIf made
made_in_range asked me sent (Denied first) makes puts = tt
made_in_range asked me sent (Accepted told change) makes puts = puts_beside change _ makes.0 puts

after_sound : (asked : Write) (me : Caller) (now : Moment) (sent : Sent) (s : State) (first : Option Rule)
    (decided : Decision) → IsSound s → IsIn caller_key s.callers me.id
    → ((reply : KeptReply) → IsKeptWrite (kept_by me.id sent reply))
    → first_failing (rules_of asked me now (facts_of asked s)) ≡ first
    → IsDecisionAfter first asked me now sent (facts_of asked s) decided → IsRequest asked → PutsInRangeIf decided
    → IsSound (state_after (left_of decided s) s)
after_sound asked me now sent s (Some rule) decided sound there write first is request puts = subst (λ d. IsSound (state_after (left_of d s) s)) (sym is) sound
after_sound asked me now sent s None decided sound there write first (made, is, keeps) request puts =
    let makes = decided_makes asked me.id now.0 (facts_of asked s) made is in
    let kept_puts = subst PutsInRangeIf keeps puts in
    subst (λ d. IsSound (state_after (left_of d s) s)) (sym keeps)
    (kept_sound asked me.id sent s made there write makes kept_puts
    (decided_sound asked me now s made sound there (all_hold (rules_of asked me now (facts_of asked s)) first) is request
    (made_in_range asked me.id sent made makes kept_puts)))

write_sound : (asked : Write) (me : Caller) (now : Moment) (number : ℕ) (s : State) (arrival : Arrival) (told : Answer) (left : Option State) → IsSound s → IsIn caller_key s.callers me.id
    → arrival_in s asked me number ≡ arrival → IsOutcomeAs arrival asked me now number s told left → IsSound (state_after left s)
write_sound asked me now number s New told left sound there comes (decided, is, (puts, ranges), tells, leaves) =
    let above = new_is_above number (spelling asked) (kept_of me.id s) comes in
    let write : (reply : KeptReply) → IsKeptWrite (kept_by me.id (sent_with number asked) reply) = λ reply. record { numbered = omega arith; spelled = (asked, ranges, refl) } in
    subst (λ l. IsSound (state_after l s)) (sym leaves)
    (after_sound asked me now (sent_with number asked) s
    (first_failing (rules_of asked me now (facts_of asked s))) decided sound there write refl is ranges puts)
write_sound asked me now number s (Repeated reply) told left sound there comes (tells, leaves) = subst (λ l. IsSound (state_after l s)) (sym leaves) sound
write_sound asked me now number s Stale told left sound there comes (tells, leaves) = subst (λ l. IsSound (state_after l s)) (sym leaves) sound

by_sound : (digest : List ℕ) (found : Option Caller) (now : Moment) (number : ℕ) (asked : Request) (s : State) (told : Answer) (left : Option State) → caller_with digest s ≡ found → IsSound s
    → IsOutcomeBy found now number asked s told left → IsSound (state_after left s)
by_sound digest None now number asked s told left is sound (tells, leaves) = subst (λ l. IsSound (state_after l s)) (sym leaves) sound
by_sound digest (Some me) now number (request.Read read) s told left is sound (tells, leaves) = subst (λ l. IsSound (state_after l s)) (sym leaves) sound
by_sound digest (Some me) now number (request.Explain rider wish) s told left is sound (tells, leaves) = subst (λ l. IsSound (state_after l s)) (sym leaves) sound
by_sound digest (Some me) now number (request.Write asked) s told left is sound outcome =
    write_sound asked me now number s (arrival_in s asked me number) told left sound (found_by_key caller_key (λ caller. bytes_eq caller.digest digest) me s.callers is) refl outcome

-- a request in a sound state leaves a sound state
pub request_sound : (key : List ℕ) (now : Moment) (number : ℕ) (asked : Request) (s : State) (told : Answer)
    (left : Option State) → IsSound s → IsOutcome key now number asked s told left → IsSound (state_after left s)
request_sound key now number asked s told left sound outcome = by_sound (sha256 key) (sender key s) now number asked s told left refl sound outcome
