-- Records are in their ranges: in a sound state, and after a change whose records are in range.
use Rattle.std.proofs.Common.{◌≡◌, ℕ, not, List, [], ◌∷◌, ◌++◌, Option, None, Some, sym, subst}
use Rattle.std.specs.Option.{unwrap_or}
use Rattle.std.specs.Prelude.{IfSome}
use Rattle.pt_base_records.specs.Records.{Each, Edit, edited, is_within, put, put_all, take_all, take_away}
use Rattle.pt_base_records.specs.declared.span.Span.{Span}
use Rattle.pt_base_records.proofs.OrderLemmas.{Each-put, Each-weaker}
use Rattle.pt_base_records.proofs.TableLemmas.{Each-filter}
use Rattle.pt_desk_spelling.specs.Ranges.{IsVehicle, IsWord}
use Rattle.pt_desk_rules.specs.Fleet.{ClosesInDay}
use Rattle.pt_desk_rules.specs.Parts.{Part, edit_of, key_in, records_of}
use Rattle.pt_desk_rules.specs.Parts as part
use Rattle.pt_desk_rules.specs.Ranges.{FitsIn, FitsKept, FitsPlan, FitsTrip, KeepsRanges, PutsInRange}
use Rattle.pt_desk_rules.proofs.PartLemmas.{parts_applied}
use Rattle.pt_desk_rules.specs.Sound.{HasDay, HasFirstDay, IsOnDay, IsSound}
use Rattle.pt_desk_rules.specs.State.{State, applied, no_edit, kept_key}
use Rattle.pt_desk_rules.specs.declared.change.Change.{Change}
use Rattle.pt_desk_rules.specs.declared.kept.Kept.{Kept}

-- ---- what holds of each record

pub Each-more : {A : Type 0} (P : A → Type 0) (done : List A) (new : A) → Each P done → P new
    → Each P (done ++ new ∷ [])
Each-more P [] new each holds = (holds, tt)
Each-more P (x ∷ done) new each holds = (each.0, Each-more P done new each.1 holds)

-- ---- and of each after an edit that puts such records

pub each-taken : {A : Type 0} (P : A → Type 0) (key : A → ℕ) (spans : List Span) (xs : List A) → Each P xs
    → Each P (take_all key spans xs)
each-taken P key [] xs each = each
each-taken P key (span ∷ spans) xs each =
    each-taken P key spans (take_away key span xs) (Each-filter P (λ x. not (is_within (key x) span)) xs each)

pub each-put : {A : Type 0} (P : A → Type 0) (key : A → ℕ) (news xs : List A) → Each P news → Each P xs
    → Each P (put_all key news xs)
each-put P key [] xs new each = each
each-put P key (x ∷ news) xs new each = each-put P key news (put key x xs) new.1 (Each-put P key x xs each new.0)

pub each-edited : {A : Type 0} (P : A → Type 0) (key : A → ℕ) (edit : Edit A) (xs : List A) → Each P edit.puts
    → Each P xs → Each P (edited key edit xs)
each-edited P key edit xs new each =
    each-put P key edit.puts (take_all key edit.away xs) new (each-taken P key edit.away xs each)

given_word : (given : Option ℕ) (last : ℕ) → IfSome given IsWord → IsWord last → IsWord (unwrap_or given last)
given_word None last is word = word
given_word (Some number) last is word = is

-- ---- ranges

pub ranges_kept : (change : Change) (s : State) → PutsInRange change → KeepsRanges s → KeepsRanges (applied change s)
ranges_kept change s puts ranges = record {
  parts = λ p. subst (Each (FitsIn p)) (sym (parts_applied p change s))
      (each-edited (FitsIn p) (key_in p) (edit_of p change) (records_of p s) (puts.parts p) (ranges.parts p));
  last_trip = given_word change.last_trip s.last_trip puts.last_trip ranges.last_trip;
}

-- the same if only a kept request changes
kept_fits : (kept : Kept) (s : State) → FitsKept kept → KeepsRanges s → (p : Part)
    → Each (FitsIn p) (records_of p (record s { kept = put kept_key kept s.kept }))
kept_fits kept s fits ranges part.kept = Each-put FitsKept kept_key kept s.kept (ranges.parts part.kept) fits
kept_fits kept s fits ranges p = ranges.parts p

pub kept_in_range : (kept : Kept) (s : State) → FitsKept kept → KeepsRanges s
    → KeepsRanges (record s { kept = put kept_key kept s.kept })
kept_in_range kept s fits ranges = record { parts = kept_fits kept s fits ranges; last_trip = ranges.last_trip }

-- what a decision puts, apart from the kept request
parts_beside : (change : Change) (kept : Edit Kept) → change.kept ≡ no_edit
    → PutsInRange (record change { kept = kept }) → (p : Part) → Each (FitsIn p) (edit_of p change).puts
parts_beside change kept none puts part.kept = subst (λ (edit : Edit Kept). Each FitsKept edit.puts) (sym none) tt
parts_beside change kept none puts p = puts.parts p

pub puts_beside : (change : Change) (kept : Edit Kept) → change.kept ≡ no_edit
    → PutsInRange (record change { kept = kept }) → PutsInRange change
puts_beside change kept none puts = record { parts = parts_beside change kept none puts; last_trip = puts.last_trip }

-- ---- the ranges of days

pub first_days : (s : State) → IsSound s → Each HasFirstDay s.vehicles
first_days s sound = Each-weaker IsVehicle HasFirstDay (λ version is. is.from_day) s.vehicles (sound.ranges.parts part.vehicles)

pub hours : (s : State) → IsSound s → Each ClosesInDay s.vehicles
hours s sound = Each-weaker IsVehicle ClosesInDay (λ version is. is.closes) s.vehicles (sound.ranges.parts part.vehicles)

pub trip_days : (s : State) → IsSound s → Each HasDay s.trips
trip_days s sound = Each-weaker FitsTrip HasDay (λ trip is. is.wish.day) s.trips (sound.ranges.parts part.trips)

pub planned_days : (s : State) → IsSound s → Each IsOnDay s.planned
planned_days s sound = Each-weaker FitsPlan IsOnDay (λ plan is. is.day) s.planned (sound.ranges.parts part.planned)
