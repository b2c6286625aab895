-- A read in one state has one answer.
use Rattle.std.proofs.Common.{◌≡◌, ◌↔◌, ◌∙◌, ℕ, zero, suc, ◌+◌, Bool, true, false, IsTrue, List, [], ◌∷◌, length}
use Rattle.std.proofs.Common.{inl, inr, take, Option, Some, None, arith, refl, sym, ap, subst}
use Rattle.std.specs.List.{AllZip}
use Rattle.std.specs.Prelude.{slice_get, slice_index}
use Rattle.std.proofs.lemmas.Option.{same_Some}
use Rattle.pt_desk_rules.specs.Residence.{Residence}
use Rattle.pt_desk_rules.specs.Residence.TheVariants.{Resident, Visitor}
use Rattle.pt_desk_rules.specs.Rider.{Rider}
use Rattle.pt_desk_rules.specs.Rule.{Rule}
use Rattle.pt_desk_rules.specs.Trip.{Trip}
use Rattle.pt_desk_rules.specs.Vehicle.{Vehicle}
use Rattle.pt_desk_rules.specs.Moment.{Moment}
use Rattle.pt_desk_rules.specs.Loads.{load_aboard}
use Rattle.pt_desk_rules.specs.ServiceTimes.{IsLeastSchedule}
use Rattle.pt_desk_rules.specs.Stop.{Stop}
use Rattle.pt_desk_rules.specs.Letter.{Letter}
use Rattle.pt_desk_rules.specs.DaySheet.{DaySheet}
use Rattle.pt_desk_rules.specs.Tour.{Tour}
use Rattle.pt_desk_rules.specs.TourStop.{TourStop}
use Rattle.pt_desk_rules.specs.VehicleSheet.{VehicleSheet}
use Rattle.pt_base_records.specs.Records.{record_at}
use Rattle.pt_desk_rules.specs.FailingRules.{first_failing}
use Rattle.pt_desk_rules.specs.Entered.{Entered}
use Rattle.pt_desk_rules.specs.Chain.{Row}
use Rattle.pt_desk_rules.specs.Periods.{MayUse}
use Rattle.pt_desk_laws.specs.Again.{IsSameAnswer, IsSameDaySheet, IsSameSheet, IsSameTour}
use Rattle.pt_desk_laws.specs.Again.{IsSameTourOrNone}
use Rattle.pt_desk_rules.specs.Booking.{rows_of}
use Rattle.pt_desk_rules.specs.Deciding.{IsToldAfter, IsToldOfKind, IsToldRead, IsToldStanding}
use Rattle.pt_desk_rules.specs.Facts.{read_facts_of}
use Rattle.pt_desk_rules.specs.Fleet.{duty_of, on_duty}
use Rattle.pt_desk_rules.specs.Letters.{letter_at, IsToldLetter}
use Rattle.pt_desk_rules.specs.Rules.{read_rules}
use Rattle.pt_desk_rules.specs.State.{trip_key, State}
use Rattle.pt_desk_rules.specs.Step.{IsOutcomeBy}
use Rattle.pt_desk_rules.specs.Tours.{tour_stop, IsDaySheet, IsManifestOf, IsSheetOf, IsShownAt, IsTour}
use Rattle.pt_desk_rules.specs.Tours.{AreShown, IsTourOrNone}
use Rattle.pt_desk_rules.proofs.RequestLemmas.{uses_one}
use Rattle.pt_desk_rules.proofs.TourLemmas.{minutes_one}
use Rattle.pt_desk_rules.specs.declared.facts.DayFacts.{DayFacts}
use Rattle.pt_desk_rules.specs.declared.facts.ReadFacts.{ReadFacts}
use Rattle.pt_desk_rules.specs.Caller.{Caller}
use Rattle.pt_desk_rules.specs.Answer.{Answer}
use Rattle.pt_desk_rules.specs.Answer.TheVariants as answer
use Rattle.pt_desk_rules.specs.Read.{Read}
use Rattle.pt_desk_rules.specs.Read.TheVariants as read
use Rattle.pt_desk_rules.specs.Request.TheVariants as request
use Rattle.std.proofs.Common.{◌⊎◌, ◌<◌, ◌||◌}
use Rattle.std.specs.Prelude.{◌==◌}
use Rattle.std.specs.List.{list_any}
use Rattle.std.specs.List.Sorted.{IsStrictlyIncreasing}
use Rattle.std.proofs.lemmas.Bool.Decides.{eqb_tells, nat_tests}
use Rattle.pt_desk_scheduling.specs.Uses.{AreUses}

-- lists that agree at each place are the same
same_list : {A : Type 0} (xs ys : List A) → length xs ≡ length ys
    → ((k : ℕ) (x y : A) → slice_get xs k ≡ Some x → slice_get ys k ≡ Some y → x ≡ y) → xs ≡ ys
same_list [] [] as_long each = refl
same_list [] (y ∷ ys) as_long each = absurd (omega (arith, as_long))
same_list (x ∷ xs) [] as_long each = absurd (omega (arith, as_long))
same_list (x ∷ xs) (y ∷ ys) as_long each =
    let rest = same_list xs ys (omega (arith, as_long)) (λ k a b one two. each (suc k) a b one two) in
    ap (λ a. a ∷ xs) (each zero x y refl refl) ∙ ap (λ l. y ∷ l) rest

-- two least schedules of one route begin each service at the same minute
pub least_one : (minutes : ℕ → ℕ → Option ℕ) (vehicle : Vehicle) (stops : List Stop) (a b : List ℕ)
    → IsLeastSchedule minutes vehicle stops a → IsLeastSchedule minutes vehicle stops b
    → (k : ℕ) → slice_index a k ≡ slice_index b k
least_one minutes vehicle stops a b one two k =
    let below = one.least b two.fits k in
    let above = two.least a one.fits k in
    omega arith

-- a stop of a trip is shown in one way at the same service times
shown_one : (trips : List Trip) (stops : List Stop) (a b : List ℕ) → ((k : ℕ) → slice_index a k ≡ slice_index b k)
    → (k : ℕ) (x y : TourStop) → IsShownAt trips stops a k x → IsShownAt trips stops b k y → x ≡ y
shown_one trips stops a b same k x y one two =
    let stop = same_Some one.stop two.stop (sym one.is_stop ∙ two.is_stop) in
    let found = ap (λ (s : Stop). record_at trip_key s.trip trips) stop in
    let trip = same_Some one.trip two.trip (sym one.is_trip ∙ found ∙ two.is_trip) in
    let minute = same (k + 1) in
    let aboard = load_aboard (take (k + 1) stops) in
    let shown : tour_stop one.stop.kind one.trip (slice_index a (k + 1)) aboard
    ≡ tour_stop two.stop.kind two.trip (slice_index b (k + 1)) aboard
    = λ i. tour_stop ((stop i).kind) (trip i) (minute i) aboard in
    one.value ∙ shown ∙ sym two.value

stops_one : (trips : List Trip) (stops : List Stop) (a b : List ℕ) (xs ys : List TourStop)
    → ((k : ℕ) → slice_index a k ≡ slice_index b k) → AreShown trips stops a xs → AreShown trips stops b ys → xs ≡ ys
stops_one trips stops a b xs ys same one two =
    same_list xs ys (one.one_each ∙ sym two.one_each)
    (λ k x y at here. shown_one trips stops a b same k x y (one.each k x at) (two.each k y here))

-- one vehicle has one tour over the same stops
tour_one : (rows : List Row) (vehicle : Vehicle) (trips : List Trip) (stops : List Stop) (x y : Tour)
    → IsTour rows vehicle trips stops x → IsTour rows vehicle trips stops y → IsSameTour x y
tour_one rows vehicle trips stops x y (minutes, times, a, least, one) (others, also, b, least_too, two) =
    let moved = subst (λ m. IsLeastSchedule m vehicle stops b) (minutes_one rows others minutes also times) least_too in
    let same = least_one minutes vehicle stops a b least moved in
    record {
      depot = one.depot ∙ sym two.depot;
      chairs = one.chairs ∙ sym two.chairs;
      leaves = one.leaves ∙ same 0 ∙ sym two.leaves;
      stops = stops_one trips stops a b x.stops.items y.stops.items same one.shown two.shown;
      returns = one.returns ∙ same (length stops + 1) ∙ sym two.returns;
    }

tour_or_none_one : (rows : List Row) (vehicle : Vehicle) (trips : List Trip) (stops : List Stop) (x y : Option Tour)
    → IsTourOrNone rows vehicle trips stops x → IsTourOrNone rows vehicle trips stops y → IsSameTourOrNone x y
tour_or_none_one rows vehicle trips stops None None one two = tt
tour_or_none_one rows vehicle trips stops None (Some y) one two = absurd (one two.0)
tour_or_none_one rows vehicle trips stops (Some x) None one two = absurd (two one.0)
tour_or_none_one rows vehicle trips stops (Some x) (Some y) one two =
    tour_one rows vehicle trips stops x y one.1 two.1

sheet_one : (day : ℕ) (facts : DayFacts) (vehicle : Vehicle) (x y : VehicleSheet) → IsSheetOf day facts vehicle x
    → IsSheetOf day facts vehicle y → IsSameSheet x y
sheet_one day facts vehicle x y one two = record {
  vehicle = one.number ∙ sym two.number;
  tour = tour_or_none_one (rows_of facts.travel) vehicle facts.trips _ x.tour y.tour one.tour two.tour;
}

-- what is the same is alike
like_tour : (tour : Option Tour) → IsSameTourOrNone tour tour
like_tour None = tt
like_tour (Some tour) = record { depot = refl; chairs = refl; leaves = refl; stops = refl; returns = refl }

like_sheet : (x y : VehicleSheet) → x ≡ y → IsSameSheet x y
like_sheet x y same = subst (IsSameSheet x) same (record { vehicle = refl; tour = like_tour x.tour })

like_sheets : (xs : List VehicleSheet) → AllZip IsSameSheet xs xs
like_sheets [] = tt
like_sheets (x ∷ xs) = (like_sheet x x refl, like_sheets xs)

like_itself : (told : Answer) → IsSameAnswer told told
like_itself (answer.Manifest day sheet) = (refl, like_sheet sheet sheet refl)
like_itself (answer.DaySheet sheet) =
    record { day = refl; vehicles = like_sheets sheet.vehicles.items; trips = refl }
like_itself _ = refl

pub like : (told again : Answer) → told ≡ again → IsSameAnswer told again
like told again same = subst (IsSameAnswer told) same (like_itself told)

manifest_one : (id day : ℕ) (facts : DayFacts) (found : Option Vehicle) (x y : VehicleSheet)
    → IsManifestOf id day facts found x → IsManifestOf id day facts found y → IsSameSheet x y
manifest_one id day facts None x y one two = like_sheet x y (one ∙ sym two)
manifest_one id day facts (Some vehicle) x y one two = sheet_one day facts vehicle x y one two

sheets_one : (day : ℕ) (facts : DayFacts) (vehicles : List Vehicle) (xs ys : List VehicleSheet)
    → AllZip (IsSheetOf day facts) vehicles xs → AllZip (IsSheetOf day facts) vehicles ys → AllZip IsSameSheet xs ys
sheets_one day facts [] [] [] one two = tt
sheets_one day facts [] [] (y ∷ ys) one two = absurd two
sheets_one day facts [] (x ∷ xs) ys one two = absurd one
sheets_one day facts (vehicle ∷ vehicles) [] ys one two = absurd one
sheets_one day facts (vehicle ∷ vehicles) (x ∷ xs) [] one two = absurd two
sheets_one day facts (vehicle ∷ vehicles) (x ∷ xs) (y ∷ ys) one two =
    (sheet_one day facts vehicle x y one.0 two.0, sheets_one day facts vehicles xs ys one.1 two.1)

day_sheet_one : (day : ℕ) (vehicles : List Vehicle) (facts : DayFacts) (x y : DaySheet)
    → IsDaySheet day vehicles facts x → IsDaySheet day vehicles facts y → IsSameDaySheet x y
day_sheet_one day vehicles facts x y one two = record {
  day = one.on_day ∙ sym two.on_day;
  vehicles = sheets_one day facts (on_duty day vehicles) x.vehicles.items y.vehicles.items one.sheets two.sheets;
  trips = one.standing ∙ sym two.standing;
}

-- one answer to each kind of read
pub bool_one : (a b : Bool) → (IsTrue a → IsTrue b) → (IsTrue b → IsTrue a) → a ≡ b
bool_one true true to from = refl
bool_one true false to from = sym (to refl)
bool_one false true to from = from refl
bool_one false false to from = refl

kind_one : (kind : Residence) (file : List Entered) (trips : List Trip) (today day : ℕ) (told again : Answer)
    → IsToldOfKind kind file trips today day told → IsToldOfKind kind file trips today day again → told ≡ again
kind_one Visitor file trips today day told again (uses, are, may, tells, is) (others, are_too, might, tell, it) =
    let same = uses_one None trips others uses are_too are in
    let moved = subst (λ us. IsTrue might ↔ MayUse us day) same tell in
    is ∙ ap (λ b. answer.Visitor b)
    (bool_one may might (λ yes. moved.1 (tells.0 yes)) (λ yes. tells.1 (moved.0 yes))) ∙ sym it
kind_one Resident file trips today day told again one two = one ∙ sym two

pub standing_one : (found : Option Rider) (file : List Entered) (trips : List Trip) (today day : ℕ) (told again : Answer)
    → IsToldStanding found file trips today day told → IsToldStanding found file trips today day again → told ≡ again
standing_one None file trips today day told again one two = absurd one
standing_one (Some there) file trips today day told again one two =
    kind_one there.kind file trips today day told again one two

pub letter_one : (found : Option Letter) (told again : Answer) → IsToldLetter found told → IsToldLetter found again
    → told ≡ again
letter_one None told again one two = absurd one
letter_one (Some letter) told again one two = one ∙ sym two

told_one : (asked : Read) (today : ℕ) (facts : ReadFacts) (told again : Answer) → IsToldRead asked today facts told
    → IsToldRead asked today facts again → IsSameAnswer told again
told_one (read.Standing rider day) today facts told again one two =
    like told again (standing_one facts.rider facts.file facts.trips today day told again one two)
told_one (read.Trips rider) today facts told again one two = like told again (one ∙ sym two)
told_one (read.Letter rider position) today facts told again one two =
    like told again (letter_one (letter_at facts.rider facts.file position) told again one two)
told_one (read.Manifest vehicle day) today facts told again (x, shows, is) (y, show, it) =
    subst (λ t. IsSameAnswer t again) (sym is) (subst (λ t. IsSameAnswer (answer.Manifest day x) t) (sym it)
    (refl, manifest_one vehicle day facts.day (duty_of vehicle day facts.vehicles) x y shows show))
told_one (read.DaySheet day) today facts told again (x, shows, is) (y, show, it) =
    subst (λ t. IsSameAnswer t again) (sym is) (subst (λ t. IsSameAnswer (answer.DaySheet x) t) (sym it)
    (day_sheet_one day facts.vehicles facts.day x y shows show))
told_one (read.Export day) today facts told again one two = like told again (one ∙ sym two)

after_one : (first : Option Rule) (asked : Read) (today : ℕ) (facts : ReadFacts) (told again : Answer)
    → IsToldAfter first asked today facts told → IsToldAfter first asked today facts again → IsSameAnswer told again
after_one (Some first) asked today facts told again one two = like told again (one ∙ sym two)
after_one None asked today facts told again one two = told_one asked today facts told again one two

pub read_one : (found : Option Caller) (now : Moment) (number other : ℕ) (asked : Read) (s : State) (told again : Answer)
    (left after : Option State) → IsOutcomeBy found now number (request.Read asked) s told left
    → IsOutcomeBy found now other (request.Read asked) s again after → IsSameAnswer told again × (after ≡ None)
read_one None now number other asked s told again left after one two = (like told again (one.0 ∙ sym two.0), two.1)
read_one (Some me) now number other asked s told again left after one two =
    let facts = read_facts_of asked s in
    (after_one (first_failing (read_rules asked me facts)) asked now.0 facts told again one.0 two.0, two.1)
