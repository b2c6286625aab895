-- In a sound state, the change of each write that the rules accept can be written.
use Rattle.std.proofs.Common.{◌≡◌, ◌++◌, ◌+◌, ◌≤◌, inl, inr, ℕ, IsTrue, List, [], ◌∷◌, length, Option, None, Some, refl, sym, ap, subst, arith}
use Rattle.std.specs.Option.{unwrap_or}
use Rattle.pt_base_values.specs.Moment.{Moment}
use Rattle.pt_base_values.specs.declared.rule.Rule.{Rule}
use Rattle.pt_base_values.specs.declared.trip.Trip.{Trip}
use Rattle.pt_base_values.specs.declared.trip.Wish.{Wish}
use Rattle.pt_desk_rules.specs.Deciding.{booked, changed, kept_by, no_change, with_kept, IsCancelDecided, IsChangeDecided, IsDecidedBy, IsDecisionAfter, IsEndDecided}
use Rattle.pt_desk_rules.specs.Booking.{IsBooking}
use Rattle.pt_desk_rules.specs.Facts.{cancel_facts, change_facts, facts_of, plan_for}
use Rattle.pt_desk_rules.specs.Fleet.{has_version}
use Rattle.pt_desk_rules.specs.Rules.{rules_of}
use Rattle.pt_desk_rules.specs.Sound.{HasDay, HasStops, IsOnDay, IsSound}
use Rattle.pt_desk_rules.specs.State.{State, applied, no_edit, plan_of, puts_one, trip_of, trip_key}
use Rattle.pt_desk_rules.specs.Step.{sent_with, IsOutcomeAs, IsOutcomeBy}
use Rattle.pt_desk_rules.specs.Trips.{plan_of_stops, plan_span}
use Rattle.pt_desk_rules.specs.declared.change.Change.{Change}
use Rattle.pt_desk_rules.specs.declared.deciding.Decision.{Decision}
use Rattle.pt_desk_rules.specs.declared.deciding.Decision.TheVariants.{Denied, Accepted}
use Rattle.pt_desk_rules.specs.declared.facts.WishFacts.{WishFacts}
use Rattle.pt_desk_rules.specs.declared.kept.Kept.{Kept}
use Rattle.pt_desk_rules.specs.declared.kept.Sent.{Sent}
use Rattle.pt_desk_rules.proofs.RangeLemmas.{Each-more, planned_days, trip_days}
use Rattle.pt_desk_laws.proofs.SoundLemmas.{change_trip, request_sound}
use Rattle.pt_base_records.specs.Keys.{pair_key}
use Rattle.pt_base_records.specs.Records.{Each, Edit, put, put_all, take_away}
use Rattle.pt_base_records.proofs.OrderLemmas.{record_at-put_same}
use Rattle.pt_desk_requests.specs.declared.caller.Caller.{Caller}
use Rattle.pt_desk_requests.specs.declared.request.Answer.{Answer}
use Rattle.pt_desk_requests.specs.declared.request.Request.TheVariants as request
use Rattle.pt_desk_requests.specs.declared.request.Write.{Write}
use Rattle.pt_desk_requests.specs.declared.request.Write.TheVariants as write
use Rattle.pt_rights_files.specs.Rules.{first_failing}
use Rattle.pt_rights_files.specs.declared.tally.Outcome.{Outcome}
use Rattle.pt_desk_scheduling.specs.Plan.{Plan, plan_key, stops_of_plan, without}
use Rattle.pt_desk_scheduling.specs.declared.planned.PlannedStop.{PlannedStop}
use Rattle.pt_desk_scheduling.specs.declared.scheduling.Scheduled.TheVariants as scheduled
use Rattle.pt_desk_scheduling.proofs.PlanLemmas.{found_key}
use Rattle.pt_desk_scheduling.proofs.RouteLemmas.{Each-found}
use Rattle.pt_desk_spelling.specs.Replies.{reply_of}
use Rattle.pt_desk_spelling.specs.declared.replies.KeptReply.TheVariants as reply
use Rattle.pt_desk_store.specs.Store.{IsByRules}
use Rattle.pt_tables_asking.specs.Plans.{HasVersionAmong}
use Rattle.pt_tables_keeper.specs.Plans.{IsFleetEdit, IsOneKey}
use Rattle.pt_tables_keeper.specs.Writable.{ChangesOfRulesAreWritten, IsWritable}
use Rattle.pt_tables_keeper.proofs.CarriedLemmas.{sound_carried}

-- ---- what holds of each record holds of the last one that was put

put_holds : {A : Type 0} (P : A → Type 0) (key : A → ℕ) (new : A) (xs : List A) → Each P (put key new xs) → P new
put_holds P key new xs each = Each-found P key (key new) new (put key new xs) each (record_at-put_same key new xs)

last_holds : {A : Type 0} (P : A → Type 0) (key : A → ℕ) (news : List A) (new : A) (xs : List A) → Each P (put_all key (news ++ new ∷ []) xs) → P new
last_holds P key [] new xs each = put_holds P key new xs each
last_holds P key (x ∷ news) new xs each = last_holds P key news new (put key x xs) each

-- ---- changes that can be written, whatever the ranges of what they put

record Shaped (s : State) (change : Change) : Type 0 where
  pub stops : Each HasStops change.planned.puts
  pub kept : change.kept.away ≡ []
  pub riders : change.riders.away ≡ []
  pub entries : change.entries.away ≡ []
  pub trips : change.trips.away ≡ []
  pub one_rider : length change.riders.puts ≤ 1
  pub fleet : IsFleetEdit change.vehicles
  pub plans_away : Each IsOneKey change.planned.away
  pub plans_put : Each (HasVersionAmong s.vehicles) change.planned.puts

abbrev IsShaped : State → Decision → Type 0
IsShaped s (Denied first) = Unit {0}
IsShaped s (Accepted told change) = Shaped s change

-- the decision leaves a sound state, with this edit of the last accepted writes
abbrev LeavesSound : State → Edit Kept → Decision → Type 0
LeavesSound s kept (Denied first) = Unit {0}
LeavesSound s kept (Accepted told change) = IsSound (applied (record change { kept = kept }) s)

-- no plan is changed, and nothing is removed from the tables that are not in memory
no_plans : (s : State) (told : Answer) (change : Change) (made : Decision) → made ≡ Accepted told change → change.planned ≡ no_edit → change.kept.away ≡ [] → change.riders.away ≡ []
    → change.entries.away ≡ [] → change.trips.away ≡ [] → length change.riders.puts ≤ 1 → IsFleetEdit change.vehicles → IsShaped s made
no_plans s told change made is none kept riders entries trips one fleet = subst (IsShaped s) (sym is) (record {
  stops = subst (λ (edit : Edit Plan). Each HasStops edit.puts) (sym none) tt;
  kept = kept;
  riders = riders;
  entries = entries;
  trips = trips;
  one_rider = one;
  fleet = fleet;
  plans_away = subst (λ (edit : Edit Plan). Each IsOneKey edit.away) (sym none) tt;
  plans_put = subst (λ (edit : Edit Plan). Each (HasVersionAmong s.vehicles) edit.puts) (sym none) tt;
})

-- the change may also put the last accepted write
kept_beside : (s : State) (change : Change) (kept : Edit Kept) → kept.away ≡ [] → Shaped s change → Shaped s (record change { kept = kept })
kept_beside s change kept none it = record {
  stops = it.stops;
  kept = none;
  riders = it.riders;
  entries = it.entries;
  trips = it.trips;
  one_rider = it.one_rider;
  fleet = it.fleet;
  plans_away = it.plans_away;
  plans_put = it.plans_put;
}

-- ---- trips

-- the stops that are left of a trip's plan are those of a plan that was there
left_carried : (old : Trip) (s : State) → IsTrue (has_version old.vehicle s.vehicles) → (stops : List PlannedStop) → Each (HasVersionAmong s.vehicles) (plan_of_stops old stops)
left_carried old s there [] = tt
left_carried old s there (stop ∷ later) = (there, tt)

left_stops : (old : Trip) (stops : List PlannedStop) → Each HasStops (plan_of_stops old stops)
left_stops old [] = tt
left_stops old (stop ∷ later) = (omega arith, tt)

left_there : (old : Trip) (s : State) → IsSound s → HasDay old → (found : Option Plan) → plan_of old.vehicle old.wish.day s ≡ found
    → Each (HasVersionAmong s.vehicles) (plan_of_stops old (without old.id (stops_of_plan found)))
left_there old s sound day None is = tt
left_there old s sound day (Some plan) is =
    let key = pair_key old.vehicle old.wish.day in
    let its_day : IsOnDay plan = Each-found IsOnDay plan_key key plan s.planned (planned_days s sound) is in
    let at : plan_key plan ≡ key = found_key plan_key key plan s.planned is in
    let same : plan.vehicle ≡ old.vehicle = omega (arith, its_day.1, day.1, at) in
    let carried : HasVersionAmong s.vehicles plan = Each-found (HasVersionAmong s.vehicles) plan_key key plan s.planned (sound_carried s sound) is in
    left_carried old s (subst (λ v. IsTrue (has_version v s.vehicles)) same carried) (without old.id plan.stops)

book_shaped : (s : State) (kept : Edit Kept) (number today : ℕ) (wish : Wish) (facts : WishFacts) (made : Decision)
    → IsBooking booked number None today wish facts made → LeavesSound s kept made → IsShaped s made
book_shaped s kept number today wish facts made (scheduled.Denied rule, by, is) leaves = subst (IsShaped s) (sym is) tt
book_shaped s kept number today wish facts made (scheduled.Booked trip plan, by, (told, confirms, is)) leaves =
    let after = applied (record (booked trip plan) { kept = kept }) s in
    let sound : IsSound after = subst (LeavesSound s kept) is leaves in
    subst (IsShaped s) (sym is) (record {
      stops = (put_holds HasStops plan_key plan s.planned sound.planned_have_stops, tt);
      kept = refl;
      riders = refl;
      entries = refl;
      trips = refl;
      one_rider = omega arith;
      fleet = inl refl;
      plans_away = tt;
      plans_put = (put_holds (HasVersionAmong s.vehicles) plan_key plan s.planned (sound_carried after sound), tt);
    })

change_shaped : (found : Option Trip) (id today : ℕ) (wish : Wish) (s : State) (kept : Edit Kept) (made : Decision) → trip_of id s ≡ found → IsSound s
    → IsChangeDecided found wish today (change_facts found wish s) made → LeavesSound s kept made → IsShaped s made
change_shaped None id today wish s kept made found sound changes leaves = absurd changes
change_shaped (Some old) id today wish s kept made found sound (scheduled.Denied rule, by, is) leaves = subst (IsShaped s) (sym is) tt
change_shaped (Some old) id today wish s kept made found sound (scheduled.Booked trip plan, by, (told, confirms, is)) leaves =
    let there = plan_for (Some old) s in
    let left = plan_of_stops old (without old.id (stops_of_plan there)) in
    let after = applied (record (changed old there trip plan) { kept = kept }) s in
    let after_sound : IsSound after = subst (LeavesSound s kept) is leaves in
    let day : HasDay old = Each-found HasDay trip_key id old s.trips (trip_days s sound) found in
    subst (IsShaped s) (sym is) (record {
      stops = Each-more HasStops left plan (left_stops old (without old.id (stops_of_plan there)))
          (last_holds HasStops plan_key left plan (take_away plan_key (plan_span old) s.planned) after_sound.planned_have_stops);
      kept = refl;
      riders = refl;
      entries = refl;
      trips = refl;
      one_rider = omega arith;
      fleet = inl refl;
      plans_away = (refl, tt);
      plans_put = Each-more (HasVersionAmong s.vehicles) left plan (left_there old s sound day there refl)
          (last_holds (HasVersionAmong s.vehicles) plan_key left plan (take_away plan_key (plan_span old) s.planned) (sound_carried after after_sound));
    })

cancel_shaped : (found : Option Trip) (id : ℕ) (s : State) (made : Decision) → trip_of id s ≡ found → IsSound s → IsCancelDecided found (cancel_facts found s) made → IsShaped s made
cancel_shaped None id s made found sound cancels = absurd cancels
cancel_shaped (Some trip) id s made found sound is =
    let there = plan_for (Some trip) s in
    let day : HasDay trip = Each-found HasDay trip_key id trip s.trips (trip_days s sound) found in
    subst (IsShaped s) (sym is) (record {
      stops = left_stops trip (without trip.id (stops_of_plan there));
      kept = refl;
      riders = refl;
      entries = refl;
      trips = refl;
      one_rider = omega arith;
      fleet = inl refl;
      plans_away = (refl, tt);
      plans_put = left_there trip s sound day there refl;
    })

end_shaped : (found : Option Trip) (outcome : Outcome) (s : State) (made : Decision) → IsEndDecided found outcome made → IsShaped s made
end_shaped None outcome s made ends = absurd ends
end_shaped (Some trip) outcome s made is =
    no_plans s _ _ made is refl refl refl refl refl (omega arith) (inl refl)

-- ---- all writes

decided_shaped : (asked : Write) (author today : ℕ) (s : State) (kept : Edit Kept) (made : Decision) → IsSound s
    → IsDecidedBy asked author today (facts_of asked s) made → LeavesSound s kept made → IsShaped s made
decided_shaped (write.PutVehicle new) author today s kept made sound is leaves =
    no_plans s _ _ made is refl refl refl refl refl (omega arith) (inr (new, refl))
decided_shaped (write.Book rider wish) author today s kept made sound is leaves =
    book_shaped s kept (s.last_trip + 1) today wish (facts_of (write.Book rider wish) s) made is leaves
decided_shaped (write.Change trip wish) author today s kept made sound is leaves =
    change_shaped (trip_of trip s) trip today wish s kept made refl sound
    (subst (λ f. IsChangeDecided f wish today (facts_of (write.Change trip wish) s) made) (change_trip (trip_of trip s) wish s) is) leaves
decided_shaped (write.Cancel trip) author today s kept made sound is leaves =
    cancel_shaped (trip_of trip s) trip s made refl sound is
decided_shaped (write.Outcome trip outcome) author today s kept made sound is leaves = end_shaped (trip_of trip s) outcome s made is
decided_shaped asked author today s kept made sound is leaves =
    no_plans s _ _ made is refl refl refl refl refl (omega arith) (inl refl)

abbrev change_in : Decision → Change
change_in (Denied first) = no_change
change_in (Accepted told change) = change

accepted_shaped : (made : Decision) (author : ℕ) (sent : Sent) (s : State) (told : Answer) (change : Change) → Accepted told change ≡ with_kept author sent made → IsSound (applied change s)
    → ((kept : Edit Kept) → LeavesSound s kept made → IsShaped s made) → Shaped s change
accepted_shaped (Denied first) author sent s told change is after shaped = absurd (cc)
accepted_shaped (Accepted word made) author sent s told change is after shaped =
    let kept = puts_one (kept_by author sent (unwrap_or (reply_of word) reply.Done)) in
    let same : change ≡ record made { kept = kept } = ap change_in is in
    subst (Shaped s) (sym same) (kept_beside s made kept refl (shaped kept (subst (λ (c : Change). IsSound (applied c s)) same after)))

after_shaped : (first : Option Rule) (asked : Write) (me : Caller) (now : Moment) (sent : Sent) (s : State) (told : Answer) (change : Change) → IsSound s → IsSound (applied change s)
    → IsDecisionAfter first asked me now sent (facts_of asked s) (Accepted told change) → Shaped s change
after_shaped (Some rule) asked me now sent s told change sound after is = absurd (cc)
after_shaped None asked me now sent s told change sound after (made, by, keeps) =
    accepted_shaped made me.id sent s told change keeps after (λ kept leaves. decided_shaped asked me.id now.0 s kept made sound by leaves)

pub rules_write : ChangesOfRulesAreWritten
rules_write key now number asked me s told change sound sends new decision puts is_request =
    let left = Some (applied change s) in
    let outcome = subst (λ found. IsOutcomeBy found now number (request.Write asked) s told left) (sym sends)
    (subst (λ arrival. IsOutcomeAs arrival asked me now number s told left) (sym new) (Accepted told change, decision, (puts, is_request), refl, refl)) in
    let after = request_sound key now number (request.Write asked) s told left sound outcome in
    let shaped = after_shaped (first_failing (rules_of asked me now (facts_of asked s))) asked me now (sent_with number asked) s told change sound after decision in
    record {
      told = record { stops = shaped.stops; ranges = puts };
      kept = shaped.kept;
      riders = shaped.riders;
      entries = shaped.entries;
      trips = shaped.trips;
      one_rider = shaped.one_rider;
      fleet = shaped.fleet;
      plans_away = shaped.plans_away;
      plans_put = shaped.plans_put;
    }

-- the same as the store's trait states it
pub writable_by_rules : (change : Change) (s : State) → IsByRules change s → IsWritable s.vehicles change
writable_by_rules change s is = rules_write is.key is.now is.number is.asked is.me s is.told change is.sound is.sends is.arrives is.decided is.puts is.ranges
