-- Reads that return something with a property.
use Rattle.std.proofs.Common.{◌≡◌, ◌≤◌, ℕ, inl, List, [], ◌∷◌, ◌++◌, true, Option, Some, None, Result, Ok, Err, IfSome, refl, sym, subst, ap, ◌∙◌, arith}
use Rattle.std.specs.Result.{IsErrAnd}
use Rattle.pt_base_values.specs.declared.trip.Trip.{Trip}
use Rattle.pt_desk_rules.specs.Deciding.{IsTold}
use Rattle.pt_desk_rules.specs.Facts.{read_facts_of, tour_facts}
use Rattle.pt_desk_rules.specs.State.{State, plan_of, trip_key, trip_of}
use Rattle.pt_base_records.specs.Records.{edited, take_all, Edit}
use Rattle.pt_desk_requests.specs.declared.request.Read.TheVariants.{Manifest}
use Rattle.pt_desk_scheduling.specs.Plan.{Plan}
use Rattle.pt_desk_store.proofs.ManifestLemmas.{enough_by, enough_none, trips_more}
use Rattle.pt_desk_rules.specs.declared.facts.ReadFacts.{ReadFacts}
use Rattle.pt_desk_requests.specs.declared.request.Read.{Read}
use Rattle.pt_desk_store.specs.Enough.{are_met, tour_by, AreTripsIn, IsEnough, IsEnoughBy, IsTripIn}
use Rattle.pt_desk_store.specs.Store.{Store, Goes, Reads, ReadsSome}
use Rattle.pt_desk_store.specs.declared.keeper.StoreFault.{StoreFault}
use Rattle.pt_desk_store.specs.declared.keeper.StoreFault.TheVariants.{Memory, Store as failed}
use Rattle.pt_desk_store.proofs.ReadLemmas.{fault_of, reads_map}
use Rattle.pt_desk_store.proofs.StoreLemmas.{found_still, reads_then}

-- a read after another
pub reads_after : {X Y : Type 0} (a b c : Store) (x v : X) (w : Y) (r : Result Y StoreFault) → Goes a b v None (Ok x) → Goes b c w None r → Goes a c w None r
reads_after a b c x v w r first next = reads_then a b c x v w w None None r first next (λ _ _ _. (refl, refl))

-- and it is of the content before both
pub reads_past : {X Y : Type 0} (a b c : Store) (x v : X) (f : State → Y) (r : Result Y StoreFault) → Goes a b v None (Ok x) → Reads b c f r → Reads a c f r
reads_past a b c x v f r first next = reads_then a b c x v (f b.content) (f a.content) None None r first next (λ _ _ same. (ap f same, refl))

-- a read leaves the content, if the store is clean after the next one
pub still : {X Y : Type 0} (a b c : Store) (x v : X) (w : Y) (r : Result Y StoreFault) → Goes a b v None (Ok x) → Goes b c w None r → c.doubt ≡ 0 → (b.doubt ≡ 0) × (b.content ≡ a.content)
still a b c x v w r first next clean =
    let up : b.doubt ≤ c.doubt = next.clean in
    let was : b.doubt ≡ 0 = omega (arith, up, clean) in
    (was, (first.holds was).tells.1)

-- what is made of a read
pub some_made : {X Y : Type 0} (a b : Store) (v x : X) (y : Y) (Is : State → Y → Type 0) → Goes a b v None (Ok x) → (b.doubt ≡ 0 → Is a.content y) → ReadsSome a b Is (Ok y)
some_made a b v x y Is read gives = record { goes = (y, reads_map a b v x (λ _. y) read); is = gives }

-- nothing is read
pub reads_nothing : {X : Type 0} (a : Store) (x : X) → Goes a a x None (Ok x)
reads_nothing {X} a x =
    let fine : (◌≡◌ {A = Result X StoreFault} (Ok x) (Err failed) → ⊥) = λ same. absurd (cc) in
    let spared : (◌≡◌ {A = Result X StoreFault} (Ok x) (Err Memory) → ⊥) = λ same. absurd (cc) in
    record {
      clean = omega arith;
      serves = omega arith;
      grows = omega arith;
      told = λ same. absurd (fine same);
      stays = λ none some. absurd (omega arith);
      settled = λ settled. settled;
      holds = λ _. record { tells = (refl, refl); crash = λ o found. inl found; durable = tt; memory = λ same. absurd (spared same); fits = λ _. refl };
    }

pub some_unread : {X : Type 0} (a : Store) (x : X) (Is : State → X → Type 0) → Is a.content x → ReadsSome a a Is (Ok x)
some_unread a x Is is = record { goes = (x, reads_nothing a x); is = λ _. is }

-- a fault of the store after something was read, as `?` returns it
pub some_fault : {X Y Z : Type 0} (a b c : Store) (x v : X) (w : Y) (u : Z) (Is : State → Z → Type 0) (e : StoreFault) (r : Result Z StoreFault) → IsErrAnd r (λ error. error ≡ e)
    → Goes {X = X} a b v None (Ok x) → Goes {X = Y} b c w None (Err e) → ReadsSome {X = Z} a c Is r
some_fault a b c x v w u Is e (Ok z) is first fault = absurd is
some_fault {X} {Y} {Z} a b c x v w u Is e (Err error) is first fault = record {
  goes = (u, subst (λ (f : StoreFault). Goes {X = Z} a c u None (Err f)) (sym is) (reads_after a b c x v u (Err e) first (fault_of {X = Y} {Y = Z} b c w u e fault)));
  is = λ _. tt;
}

memory_as : {X Z : Type 0} (a b : Store) (x v : X) (u : Z) (r : Result Z StoreFault) → IsErrAnd r (λ error. error ≡ Memory) → Goes {X = X} a b v None (Ok x)
    → Goes {X = Z} a b u None r
memory_as a b x v u (Ok z) is first = absurd is
memory_as {X = X} {Z = Z} a b x v u (Err error) is first =
    let fine : (◌≡◌ {A = Result Z StoreFault} (Err Memory) (Err failed) → ⊥) = λ same. absurd (cc) in
    let fine' : (◌≡◌ {A = Result X StoreFault} (Ok x) (Err failed) → ⊥) = λ same. absurd (cc) in
    let short : Goes {X = Z} a b u None (Err Memory)
    = record {
      clean = first.clean;
      serves = first.serves;
      grows = first.grows;
      told = λ same. absurd (fine same);
      stays = λ none some. absurd (fine' (first.stays none some));
      settled = first.settled;
      holds = λ clean.
          let it = first.holds clean in
          record { tells = it.tells.1; crash = it.crash; durable = tt; memory = λ _. found_still a b it.tells.1 it.crash; fits = it.fits };
    } in
    subst (λ (f : StoreFault). Goes {X = Z} a b u None (Err f)) (sym is) short

-- out of memory after something was read, as `?` returns it
pub memory_goes : {X Z : Type 0} {a b : Store} {x v : X} {u : Z} {r : Result Z StoreFault} → IsErrAnd r (λ error. error ≡ Memory) → Goes {X = X} a b v None (Ok x)
    → Goes {X = Z} a b u None r
memory_goes {X} {Z} {a} {b} {x} {v} {u} {r} is first = memory_as {X = X} {Z = Z} a b x v u r is first

pub some_memory : {X Z : Type 0} (a b : Store) (x v : X) (u : Z) (Is : State → Z → Type 0) (r : Result Z StoreFault) → IsErrAnd r (λ error. error ≡ Memory)
    → Goes {X = X} a b v None (Ok x) → ReadsSome {X = Z} a b Is r
some_memory a b x v u Is (Ok z) is first = absurd is
some_memory {X} {Z} a b x v u Is (Err error) is first = record { goes = (u, memory_as {X = X} {Z = Z} a b x v u (Err error) is first); is = λ _. tt }

-- a trip by its number
pub some_trip : (a b : Store) (id : ℕ) (r : Result (Option Trip) StoreFault) → Reads a b (trip_of id) r → ReadsSome a b (λ s other. IfSome other (IsTripIn s)) r
some_trip a b id (Ok None) read = record { goes = (trip_of id a.content, read); is = λ _. tt }
some_trip a b id (Ok (Some trip)) read = record { goes = (trip_of id a.content, read); is = λ clean. (id, sym (read.holds clean).tells.0) }
some_trip a b id (Err fault) read = record { goes = (trip_of id a.content, read); is = λ _. tt }

-- what is read has a property that it has in every content
pub some_of : {X : Type 0} (a b : Store) (f : State → X) (Is : State → X → Type 0) (r : Result X StoreFault) → ((s : State) → Is s (f s)) → Reads a b f r → ReadsSome a b Is r
some_of a b f Is (Ok x) each goes = record {
  goes = (f a.content, goes);
  is = λ clean. subst (Is a.content) (sym (goes.holds clean).tells.0) (each a.content);
}
some_of a b f Is (Err fault) each goes = record { goes = (f a.content, goes); is = λ _. tt }

-- a read of something with a property that depends on what was read before it
pub some_onto : {X Y : Type 0} (a b c : Store) (f : State → X) (Of : State → Y → Type 0) (Is : State → Y → Type 0) (x : X) (r : Result Y StoreFault) → Reads a b f (Ok x)
    → ReadsSome b c Of r → ((s : State) → x ≡ f s → (y : Y) → Of s y → Is s y) → ReadsSome a c Is r
some_onto a b c f Of Is x (Ok y) first next gives = record {
  goes = (next.goes.0, reads_after a b c x (f a.content) next.goes.0 (Ok y) first next.goes.1);
  is = λ clean.
      let (was, same) = still a b c x (f a.content) next.goes.0 (Ok y) first next.goes.1 clean in
      gives a.content (first.holds was).tells.0 y (subst (λ (s : State). Of s y) same (next.is clean));
}
some_onto a b c f Of Is x (Err fault) first next gives =
    record { goes = (next.goes.0, reads_after a b c x (f a.content) next.goes.0 (Err fault) first next.goes.1); is = λ _. tt }

-- all facts are enough
pub enough_all : (a b : Store) (read : Read) (r : Result ReadFacts StoreFault) → Reads a b (read_facts_of read) r → ReadsSome a b (IsEnough read) r
enough_all a b read (Ok facts) goes = record {
  goes = (read_facts_of read a.content, goes);
  is = λ clean me now told is. subst (λ (f : ReadFacts). IsTold read me now f told) (goes.holds clean).tells.0 is;
}
enough_all a b read (Err fault) goes = record { goes = (read_facts_of read a.content, goes); is = λ _. tt }

-- a fault, whatever was to be read
pub some_fault_as : {X Z : Type 0} (a b : Store) (v : X) (u : Z) (Is : State → Z → Type 0) (e : StoreFault) (r : Result Z StoreFault) → IsErrAnd r (λ error. error ≡ e)
    → Goes {X = X} a b v None (Err e) → ReadsSome {X = Z} a b Is r
some_fault_as a b v u Is e (Ok z) is fault = absurd is
some_fault_as {X} {Z} a b v u Is e (Err error) is fault = record {
  goes = (u, subst (λ (f : StoreFault). Goes {X = Z} a b u None (Err f)) (sym is) (fault_of {X = X} {Y = Z} a b v u e fault));
  is = λ _. tt;
}

-- what was read, where it is there
pub some_there : {X : Type 0} (a b : Store) (P : State → X → Type 0) (o : Option X) (x : X) → ReadsSome a b (λ s o. IfSome o (P s)) (Ok o) → o ≡ Some x → ReadsSome a b P (Ok x)
some_there a b P o x read is = some_made a b read.goes.0 o x P read.goes.1 (λ clean. subst (λ o. IfSome o (P a.content)) is (read.is clean))

-- the whole day, after something else was read
pub run_whole : {X : Type 0} (a b c : Store) (x v : X) (vehicle day : ℕ) (r : Result ReadFacts StoreFault) → Goes a b v None (Ok x) → Reads b c (tour_facts day) r
    → ReadsSome a c (IsEnough (Manifest vehicle day)) r
run_whole a b c x v vehicle day r first next = enough_all a c (Manifest vehicle day) r (reads_past a b c x v (tour_facts day) r first next)

-- the manifest of a vehicle that has a plan
pub run_planned : (a b c : Store) (vehicle day : ℕ) (o : Option Plan) (plan : Plan) (r : Result (Option ReadFacts) StoreFault) → Reads a b (plan_of vehicle day) (Ok o) → o ≡ Some plan
    → ReadsSome b c (λ s found. IfSome found (IsEnoughBy day plan s)) r → ReadsSome a c (λ s found. IfSome found (IsEnough (Manifest vehicle day) s)) r
run_planned a b c vehicle day o plan (Err fault) first is next =
    record { goes = (next.goes.0, reads_after a b c o (plan_of vehicle day a.content) next.goes.0 (Err fault) first next.goes.1); is = λ _. tt }
run_planned a b c vehicle day o plan (Ok None) first is next =
    record { goes = (next.goes.0, reads_after a b c o (plan_of vehicle day a.content) next.goes.0 (Ok None) first next.goes.1); is = λ _. tt }
run_planned a b c vehicle day o plan (Ok (Some facts)) first is next = record {
  goes = (next.goes.0, reads_after a b c o (plan_of vehicle day a.content) next.goes.0 (Ok (Some facts)) first next.goes.1);
  is = λ clean.
      let (was, same) = still a b c o (plan_of vehicle day a.content) next.goes.0 (Ok (Some facts)) first next.goes.1 clean in
      subst (λ (s : State). IsEnoughBy day plan s facts) same (next.is clean) vehicle (sym (first.holds was).tells.0 ∙ is);
}

-- the manifest of a vehicle that has none
pub run_unplanned : (a b c : Store) (vehicle day : ℕ) (o : Option Plan) (plans : List Plan) (trips : List Trip) (facts : ReadFacts) → Reads a b (plan_of vehicle day) (Ok o) → o ≡ None
    → plans ≡ [] → trips ≡ [] → Reads b c (tour_by day plans trips) (Ok facts) → ReadsSome a c (λ s found. IfSome found (IsEnough (Manifest vehicle day) s)) (Ok (Some facts))
run_unplanned a b c vehicle day o plans trips facts first is no_plans no_trips next =
    let after = reads_after a b c o (plan_of vehicle day a.content) (tour_by day plans trips b.content) (Ok facts) first next in
    some_made a c (tour_by day plans trips b.content) facts (Some facts) (λ s found. IfSome found (IsEnough (Manifest vehicle day) s)) after
    (λ clean.
    let (was, same) = still a b c o (plan_of vehicle day a.content) (tour_by day plans trips b.content) (Ok facts) first next clean in
    let all : facts ≡ tour_by day [] [] a.content
    = (next.holds clean).tells.0 ∙ ap (λ ps. tour_by day ps trips b.content) no_plans ∙ ap (λ ts. tour_by day [] ts b.content) no_trips ∙ ap (tour_by day [] []) same in
    subst (IsEnough (Manifest vehicle day) a.content) (sym all) (enough_none vehicle day a.content (sym (first.holds was).tells.0 ∙ is)))

-- the facts by a plan and the trips of its stops
pub planned_told : (a b c : Store) (day : ℕ) (plan : Plan) (found : Edit Trip) (trips : List Trip) (plans : List Plan) (facts : ReadFacts)
    → ReadsSome a b (λ s found. AreTripsIn s (edited trip_key found [])) (Ok found) → trips ≡ edited trip_key found [] → plan.day ≡ day → are_met day trips plan.stops ≡ true
    → plans ≡ plan ∷ [] → Reads b c (tour_by day plans trips) (Ok facts) → ReadsSome a c (λ s o. IfSome o (IsEnoughBy day plan s)) (Ok (Some facts))
planned_told a b c day plan found trips plans facts first is on met alone next =
    let after = reads_after a b c found first.goes.0 (tour_by day plans trips b.content) (Ok facts) first.goes.1 next in
    some_made a c (tour_by day plans trips b.content) facts (Some facts) (λ s o. IfSome o (IsEnoughBy day plan s)) after
    (λ clean.
    let (was, same) = still a b c found first.goes.0 (tour_by day plans trips b.content) (Ok facts) first.goes.1 next clean in
    let all : facts ≡ tour_by day (plan ∷ []) trips a.content
    = (next.holds clean).tells.0 ∙ ap (λ ps. tour_by day ps trips b.content) alone ∙ ap (tour_by day (plan ∷ []) trips) same in
    let own : AreTripsIn a.content trips = subst (AreTripsIn a.content) (sym is) (first.is was) in
    subst (IsEnoughBy day plan a.content) (sym all) (enough_by day plan trips a.content on met own))

-- one more read of a trip
pub goes_more : (a b c : Store) (x : Unit {0}) (o : Option Trip) → Goes a b x None (Ok x) → ReadsSome b c (λ s other. IfSome other (IsTripIn s)) (Ok o) → Goes a c x None (Ok x)
goes_more a b c x o first next = reads_after a b c x x x (Ok x) first (reads_map b c next.goes.0 o (λ _. x) next.goes.1)

-- the trips of before, if the store is clean
pub own_still : (a b c : Store) (x : Unit {0}) (o : Option Trip) (trips : List Trip) → Goes a b x None (Ok x) → ReadsSome b c (λ s other. IfSome other (IsTripIn s)) (Ok o)
    → (b.doubt ≡ 0 → AreTripsIn a.content trips) → c.doubt ≡ 0 → AreTripsIn a.content trips
own_still a b c x o trips first next own clean = own (still a b c x x next.goes.0 (Ok o) first next.goes.1 clean).0

-- and the one more
pub own_more : (a b c : Store) (x : Unit {0}) (o : Option Trip) (trip : Trip) (found more : Edit Trip) → Goes a b x None (Ok x) → ReadsSome b c (λ s other. IfSome other (IsTripIn s)) (Ok o)
    → o ≡ Some trip → more ≡ record { away = found.away; puts = found.puts ++ trip ∷ [] } → (b.doubt ≡ 0 → AreTripsIn a.content (edited trip_key found [])) → c.doubt ≡ 0
    → AreTripsIn a.content (edited trip_key more [])
own_more a b c x o trip found more first next is more_is own clean =
    let (was, same) = still a b c x x next.goes.0 (Ok o) first next.goes.1 clean in
    let new : IsTripIn a.content trip = subst (λ (s : State). IsTripIn s trip) same (subst (λ o. IfSome o (IsTripIn b.content)) is (next.is clean)) in
    subst (λ (e : Edit Trip). AreTripsIn a.content (edited trip_key e [])) (sym more_is) (trips_more a.content trip found.puts (take_all trip_key found.away []) (own was) new)
