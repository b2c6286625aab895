-- The records of the content that the tables have, as the queries return them.
use Rattle.std.proofs.Common.{◌≡◌, ◌<◌, ◌==◌, ◌&&◌, ◌^◌, ℕ, Bool, IsTrue, List, [], ◌∷◌, map, filter, flat_map, refl, sym, ap, ap₂, subst, ◌∙◌, arith}
use Rattle.std.specs.Prelude.{IsPermutation, nat_le}
use Rattle.std.proofs.lemmas.Bool.Decides.{nat_tests}
use Rattle.std.proofs.lemmas.List.Sorted.{IsPermutation-refl}
use Rattle.sqlite.specs.Effect.{Database}
use Rattle.sqlite.specs.Order.{Row}
use Rattle.sqlite.specs.State.{State as Connected, HasCleanDisk}
use Rattle.sqlite.specs.Table.{Table}
use Rattle.pt_base_values.specs.declared.rider.Rider.{Rider}
use Rattle.pt_base_values.specs.declared.trip.Trip.{Trip}
use Rattle.pt_desk_rules.specs.Parts as part
use Rattle.pt_desk_rules.specs.Planned.{trips_of, trips_on}
use Rattle.pt_desk_rules.specs.State.{State, entries_of, entry_key, kept_key, rider_key, span_of, trip_key}
use Rattle.pt_desk_rules.specs.declared.change.FiledEntry.{FiledEntry}
use Rattle.pt_desk_rules.specs.declared.kept.Kept.{Kept}
use Rattle.pt_desk_rules.specs.declared.table_name.TableName.TheVariants as name
use Rattle.pt_base_records.specs.Keys.{pair_key}
use Rattle.pt_base_records.specs.Records.{Each, IsInOrder, is_within, within}
use Rattle.pt_base_records.proofs.OrderLemmas.{Each-weaker}
use Rattle.pt_base_records.proofs.TableLemmas.{Each-filter, IsInOrder-filter}
use Rattle.pt_desk_rules.specs.Ranges.{FitsFiled, FitsKept, FitsRider, FitsTrip}
use Rattle.pt_tables_rows.specs.Rows.{entry_row, kept_row, number_value, rider_chair_rows, rider_row, row_if, trip_chair_rows, trip_row}
use Rattle.pt_tables_rows.specs.Schema.{desk_schema, entries_table, kept_table, rider_chairs_table, riders_table, trip_chairs_table, trips_table}
use Rattle.pt_tables_rows.specs.Tables.{AreRows, IsKept, Stands, IsWellFormed}
use Rattle.pt_tables_rows.proofs.ColumnLemmas.{number_in}
use Rattle.pt_tables_rows.proofs.NameLemmas.{as_map}
use Rattle.pt_tables_rows.proofs.SameRows.{entry-told, kept-told, rider-told, trip-told}
use Rattle.pt_tables_asking.specs.Asking.{HasAnswer, Rests}
use Rattle.pt_tables_asking.specs.Marks.{FitsMark, HasMarks, IsMark, has_row, mark_key, mark_row, marked_in}
use Rattle.pt_tables_asking.specs.declared.texts.TheConstants.{ENTRIES_BY_RIDER, KEPT_BY_CALLER, RIDER_BY_NUMBER, RIDER_MARKS, TRIPS_BY_DAY, TRIPS_BY_RIDER, TRIPS_FROM_DAY, TRIP_BY_NUMBER, TRIP_MARKS}
use Rattle.pt_tables_asking.proofs.AnswerLemmas.{by_one, by_two, has_passing}
use Rattle.pt_tables_asking.proofs.AskedQueries.{AsksFor}
use Rattle.pt_tables_asking.proofs.InsideLemmas.{still_shown}
use Rattle.pt_tables_asking.proofs.MarkLemmas.{has_row-if, in_order_by_rows, mark_rows, marked_are, marks_fit, marks_in_order, marks_of, marks_within}
use Rattle.pt_tables_asking.proofs.ReadLemmas.{at_params}
use Rattle.pt_tables_asking.proofs.TextLemmas.{at_least, between, entries_text, has_least, has_number, is_between}
use Rattle.pt_tables_asking.proofs.TextLemmas.{kept_text, rider_marks_text, rider_text, same_number, trip_marks_text}
use Rattle.pt_tables_asking.proofs.TextLemmas.{trip_text, trips_by_day_text, trips_by_rider_text, trips_from_day_text}

-- ---- what a read leaves

-- the tables have the content that they had
pub kept_still : (content : State) (old new : Connected) → Rests old new → HasCleanDisk new → IsKept content old → IsKept content new
kept_still content old new rests clean held = record {
  stands = λ here. subst (Stands content) (sym (still_shown old new rests clean held.committed here)) (held.stands ((rests.keeps clean).was_open here));
  committed = λ here. sym (rests.undone clean here);
}

-- ---- marks

module _ {A : Type 0} (key : A → ℕ) (rows_of : A → List Row) (are : (x : A) → IsMark (key x) (rows_of x)) (home : Table) (text : List ℕ)
    (asks : (from to : ℕ) → AsksFor 1 home text (number_value from ∷ number_value to ∷ []) (is_between from to)) (db : Database) (has : db.schema ≡ desk_schema) where
  pub marks_answer : (xs : List A) → Each (λ x. key x < 2 ^ 32) xs → IsInOrder key xs → AreRows home db.trees (flat_map rows_of xs) → HasMarks text key rows_of db xs
  marks_answer xs each order rows span =
      let params = number_value span.from ∷ number_value span.to ∷ [] in
      let marks = marks_of key rows_of are xs in
      subst (HasAnswer text params db) (ap (map mark_row) (marks_within key rows_of are span xs) ∙ sym (mark_rows key rows_of are (within key span xs)))
      (has_passing mark_key mark_row FitsMark 1 (by_one mark_key mark_row FitsMark (λ m. refl) (λ m. refl)) home text params (is_between span.from span.to)
      (asks span.from span.to) db has (λ m. is_within (mark_key m) span) (λ m fits. between m.number span.from span.to) marks (marks_fit key rows_of are xs each)
      (marks_in_order key rows_of are xs order) (subst (AreRows home db.trees) (mark_rows key rows_of are xs) rows))

-- ---- entries

in_span : (x rider position : ℕ) → position < 4_294_967_296 → (x == rider) ≡ (nat_le (pair_key rider 0) (pair_key x position) && nat_le (pair_key x position) (pair_key rider 4_294_967_295))
in_span x rider position low = grind (arith, nat_tests)

pub entries_apart : (x y : FiledEntry) → FitsFiled x → FitsFiled y → entry_row x ≡ entry_row y → x ≡ y
entries_apart x y one other = entry-told x y one.entry other.entry

pub kept_apart : (x y : Kept) → FitsKept x → FitsKept y → kept_row x ≡ kept_row y → x ≡ y
kept_apart x y one other = kept-told x y one.reply other.reply

-- ---- riders and trips

same_mark : (a b : Bool) (n m : ℕ) → a ≡ b → n ≡ m → IsPermutation (row_if a (number_value n ∷ [])) (row_if b (number_value m ∷ []))
same_mark a b n m one other = subst (IsPermutation (row_if a (number_value n ∷ []))) (ap₂ (λ c k. row_if c (number_value k ∷ [])) one other) (IsPermutation-refl _)

pub riders_keyed : (x y : Rider) → rider_row x ≡ rider_row y → rider_key x ≡ rider_key y
riders_keyed x y same = ap (number_in 0) same

pub trips_keyed : (x y : Trip) → trip_row x ≡ trip_row y → trip_key x ≡ trip_key y
trips_keyed x y same = ap (number_in 0) same

-- a row and a mark determine them
riders_told : (x y : Rider) → rider_row x ≡ rider_row y → record x { wheelchair = has_row (rider_chair_rows y) } ≡ y
riders_told x y same =
    rider-told (record x { wheelchair = has_row (rider_chair_rows y) }) y same
    (same_mark (has_row (rider_chair_rows y)) y.wheelchair x.id y.id (has_row-if y.id y.wheelchair) (riders_keyed x y same))

trips_told : (x y : Trip) → trip_row x ≡ trip_row y → record x { wheelchair = has_row (trip_chair_rows y) } ≡ y
trips_told x y same =
    trip-told (record x { wheelchair = has_row (trip_chair_rows y) }) y same
    (same_mark (has_row (trip_chair_rows y)) y.wheelchair x.id y.id (has_row-if y.id y.wheelchair) (trips_keyed x y same))

-- those that pass, from their rows and their marks
module _ (content : State) (readable : IsWellFormed content) where
  pub riders_rise : (passes : Rider → Bool) (found : List Rider) → map rider_row found ≡ map rider_row (filter passes content.riders) → IsInOrder rider_key found
  riders_rise passes found same = in_order_by_rows rider_key rider_row riders_keyed found _ same (IsInOrder-filter rider_key passes content.riders (readable.order part.riders))

  pub riders_marked : (passes : Rider → Bool) (found : List Rider) → map rider_row found ≡ map rider_row (filter passes content.riders)
      → map (marked_in rider_key rider_chair_rows (λ r is. record r { wheelchair = is }) content.riders) found ≡ filter passes content.riders
  riders_marked passes found same =
      marked_are rider_key rider_row riders_keyed rider_chair_rows (λ r is. record r { wheelchair = is }) riders_told content.riders passes (readable.order part.riders) found same

  pub trips_rise : (passes : Trip → Bool) (found : List Trip) → map trip_row found ≡ map trip_row (filter passes content.trips) → IsInOrder trip_key found
  trips_rise passes found same = in_order_by_rows trip_key trip_row trips_keyed found _ same (IsInOrder-filter trip_key passes content.trips (readable.order part.trips))

  pub trips_marked : (passes : Trip → Bool) (found : List Trip) → map trip_row found ≡ map trip_row (filter passes content.trips)
      → map (marked_in trip_key trip_chair_rows (λ t is. record t { wheelchair = is }) content.trips) found ≡ filter passes content.trips
  trips_marked passes found same =
      marked_are trip_key trip_row trips_keyed trip_chair_rows (λ t is. record t { wheelchair = is }) trips_told content.trips passes (readable.order part.trips) found same

-- ---- what the texts ask for

module _ (content : State) (readable : IsWellFormed content) where
  pub rider_numbers : Each (λ r. rider_key r < 2 ^ 32) content.riders
  rider_numbers = Each-weaker FitsRider (λ r. rider_key r < 2 ^ 32) (λ r fits. fits.1) content.riders (readable.ranges.parts part.riders)

  -- those that pass are in their ranges
  pub trips_fit : (passes : Trip → Bool) → Each FitsTrip (filter passes content.trips)
  trips_fit passes = Each-filter FitsTrip passes content.trips (readable.ranges.parts part.trips)

  pub trip_numbers : Each (λ t. trip_key t < 2 ^ 32) content.trips
  trip_numbers = Each-weaker FitsTrip (λ t. trip_key t < 2 ^ 32) (λ t fits. fits.id.1) content.trips (readable.ranges.parts part.trips)

module _ (content : State) (readable : IsWellFormed content) (db : Database) (stands : Stands content db) where
  pub kept_answer : (caller : ℕ) → HasAnswer KEPT_BY_CALLER.now (number_value caller ∷ []) db (map kept_row (filter (λ kept. kept_key kept == caller) content.kept))
  kept_answer caller =
      has_passing kept_key kept_row FitsKept 1 (by_one kept_key kept_row FitsKept (λ x. refl) (λ x. refl)) kept_table
      KEPT_BY_CALLER.now (number_value caller ∷ []) (has_number 0 caller) (kept_text caller)
      db stands.schema (λ kept. kept_key kept == caller) (λ kept fits. same_number kept.caller caller) content.kept (readable.ranges.parts part.kept) (readable.order part.kept)
      (as_map kept_table kept_row content.kept db.trees (stands.rows name.Kept))

  pub rider_answer : (rider : ℕ) → HasAnswer RIDER_BY_NUMBER.now (number_value rider ∷ []) db (map rider_row (filter (λ r. rider_key r == rider) content.riders))
  rider_answer rider =
      has_passing rider_key rider_row FitsRider 1 (by_one rider_key rider_row FitsRider (λ x. refl) (λ x. refl))
      riders_table RIDER_BY_NUMBER.now (number_value rider ∷ []) (has_number 0 rider) (rider_text rider)
      db stands.schema (λ r. rider_key r == rider) (λ r fits. same_number r.id rider) content.riders (readable.ranges.parts part.riders) (readable.order part.riders)
      (as_map riders_table rider_row content.riders db.trees (stands.rows name.Riders))

  pub entries_answer : (rider : ℕ) → HasAnswer ENTRIES_BY_RIDER.now (number_value rider ∷ []) db (map entry_row (entries_of rider content.entries))
  entries_answer rider =
      has_passing entry_key entry_row FitsFiled 2 (by_two entry_key entry_row FitsFiled (λ x fits. record { first = refl; second = refl; second_low = fits.position }) (λ x. refl)) entries_table
      ENTRIES_BY_RIDER.now (number_value rider ∷ []) (has_number 0 rider) (entries_text rider) db stands.schema (λ filed. is_within (entry_key filed) (span_of rider))
      (λ filed fits. same_number filed.rider rider ∙ in_span filed.rider rider filed.position fits.position)
      content.entries (readable.ranges.parts part.entries) (readable.order part.entries) (as_map entries_table entry_row content.entries db.trees (stands.rows name.Entries))

  module _ (text : List ℕ) (params : Row) (passes_row : Row → Bool)
      (asks : AsksFor 1 trips_table text params passes_row) (passes : Trip → Bool)
      (passing : (t : Trip) → passes_row (trip_row t) ≡ passes t) where
    trips_answer : HasAnswer text params db (map trip_row (filter passes content.trips))
    trips_answer =
        has_passing trip_key trip_row FitsTrip 1 (by_one trip_key trip_row FitsTrip (λ x. refl) (λ x. refl)) trips_table text params passes_row asks
        db stands.schema passes (λ t fits. passing t) content.trips (readable.ranges.parts part.trips) (readable.order part.trips)
        (as_map trips_table trip_row content.trips db.trees (stands.rows name.Trips))

  pub trip_answer : (trip : ℕ) → HasAnswer TRIP_BY_NUMBER.now (number_value trip ∷ []) db (map trip_row (filter (λ t. trip_key t == trip) content.trips))
  trip_answer trip = trips_answer TRIP_BY_NUMBER.now (number_value trip ∷ []) (has_number 0 trip) (trip_text trip) (λ t. trip_key t == trip) (λ t. same_number t.id trip)

  pub rider_trips_answer : (rider : ℕ) → HasAnswer TRIPS_BY_RIDER.now (number_value rider ∷ []) db (map trip_row (trips_of rider content.trips))
  rider_trips_answer rider = trips_answer TRIPS_BY_RIDER.now (number_value rider ∷ []) (has_number 1 rider) (trips_by_rider_text rider) (λ t. t.rider == rider) (λ t. same_number t.rider rider)

  pub day_trips_answer : (day : ℕ) → HasAnswer TRIPS_BY_DAY.now (number_value day ∷ []) db (map trip_row (trips_on day content.trips))
  day_trips_answer day = trips_answer TRIPS_BY_DAY.now (number_value day ∷ []) (has_number 2 day) (trips_by_day_text day) (λ t. t.wish.day == day) (λ t. same_number t.wish.day day)

  pub later_trips_answer : (day : ℕ) → HasAnswer TRIPS_FROM_DAY.now (number_value day ∷ []) db (map trip_row (filter (λ t. nat_le day t.wish.day) content.trips))
  later_trips_answer day = trips_answer TRIPS_FROM_DAY.now (number_value day ∷ []) (has_least 2 day) (trips_from_day_text day) (λ t. nat_le day t.wish.day) (λ t. at_least t.wish.day day)

  rider_marks_answer : HasMarks RIDER_MARKS.now rider_key rider_chair_rows db content.riders
  rider_marks_answer =
      marks_answer rider_key rider_chair_rows (λ r. (r.wheelchair, refl)) rider_chairs_table RIDER_MARKS.now rider_marks_text db stands.schema content.riders
      (rider_numbers content readable) (readable.order part.riders) (stands.rows name.RiderChairs)

  trip_marks_answer : HasMarks TRIP_MARKS.now trip_key trip_chair_rows db content.trips
  trip_marks_answer =
      marks_answer trip_key trip_chair_rows (λ t. (t.wheelchair, refl)) trip_chairs_table TRIP_MARKS.now trip_marks_text db stands.schema content.trips
      (trip_numbers content readable) (readable.order part.trips) (stands.rows name.TripChairs)

-- ---- the same of a connection that keeps the content, and of parameters that were made on the way

module _ (content : State) (readable : IsWellFormed content) (old : Connected) (held : IsKept content old) where
  there : (text : List ℕ) (params : Row) (rows : List Row) → ((db : Database) → Stands content db → HasAnswer text params db rows)
      → (given : Row) → given ≡ params → IsTrue old.is_open → HasAnswer text given old.now rows
  there text params rows answer given same here = at_params text old.now rows given params same (answer old.now (held.stands here))

  pub kept_there : (caller : ℕ) (given : Row) → given ≡ number_value caller ∷ [] → IsTrue old.is_open
      → HasAnswer KEPT_BY_CALLER.now given old.now (map kept_row
      (filter (λ kept. kept_key kept == caller) content.kept))
  kept_there caller = there KEPT_BY_CALLER.now _ _ (λ db stands. kept_answer content readable db stands caller)

  pub entries_there : (rider : ℕ) (given : Row) → given ≡ number_value rider ∷ [] → IsTrue old.is_open → HasAnswer ENTRIES_BY_RIDER.now given old.now (map entry_row (entries_of rider content.entries))
  entries_there rider = there ENTRIES_BY_RIDER.now _ _ (λ db stands. entries_answer content readable db stands rider)

  pub trip_there : (trip : ℕ) (given : Row) → given ≡ number_value trip ∷ [] → IsTrue old.is_open
      → HasAnswer TRIP_BY_NUMBER.now given old.now (map trip_row (filter (λ t. trip_key t == trip) content.trips))
  trip_there trip = there TRIP_BY_NUMBER.now _ _ (λ db stands. trip_answer content readable db stands trip)

  pub rider_trips_there : (rider : ℕ) (given : Row) → given ≡ number_value rider ∷ [] → IsTrue old.is_open → HasAnswer TRIPS_BY_RIDER.now given old.now (map trip_row (trips_of rider content.trips))
  rider_trips_there rider = there TRIPS_BY_RIDER.now _ _ (λ db stands. rider_trips_answer content readable db stands rider)

  pub day_trips_there : (day : ℕ) (given : Row) → given ≡ number_value day ∷ [] → IsTrue old.is_open → HasAnswer TRIPS_BY_DAY.now given old.now (map trip_row (trips_on day content.trips))
  day_trips_there day = there TRIPS_BY_DAY.now _ _ (λ db stands. day_trips_answer content readable db stands day)

  pub later_trips_there : (day : ℕ) (given : Row) → given ≡ number_value day ∷ [] → IsTrue old.is_open
      → HasAnswer TRIPS_FROM_DAY.now given old.now (map trip_row (filter (λ t. nat_le day t.wish.day) content.trips))
  later_trips_there day = there TRIPS_FROM_DAY.now _ _ (λ db stands. later_trips_answer content readable db stands day)

  pub rider_there : (rider : ℕ) (given : Row) → given ≡ number_value rider ∷ [] → IsTrue old.is_open
      → HasAnswer RIDER_BY_NUMBER.now given old.now (map rider_row
      (filter (λ r. rider_key r == rider) content.riders))
  rider_there rider = there RIDER_BY_NUMBER.now _ _ (λ db stands. rider_answer content readable db stands rider)

  -- the marks too, after a read
  module _ (mid : Connected) (rests : Rests old mid) (clean : HasCleanDisk mid) where
    pub rider_marks_there : IsTrue mid.is_open → HasMarks RIDER_MARKS.now rider_key rider_chair_rows mid.now content.riders
    rider_marks_there here = rider_marks_answer content readable mid.now ((kept_still content old mid rests clean held).stands here)

    pub trip_marks_there : IsTrue mid.is_open → HasMarks TRIP_MARKS.now trip_key trip_chair_rows mid.now content.trips
    trip_marks_there here = trip_marks_answer content readable mid.now ((kept_still content old mid rests clean held).stands here)
