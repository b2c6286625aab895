-- No two requests have the same spelling.
use Rattle.std.proofs.Common.{◌≡◌, ℕ, ◌≤◌, Bool, true, false, length, List, [], ◌∷◌, ◌++◌, get_or, drop, refl, sym, ap, ◌∙◌, arith}
use Rattle.std.specs.List.{All}
use Rattle.pt_base_values.specs.Day.{IsDay}
use Rattle.pt_base_values.specs.declared.place.Place.{Place}
use Rattle.pt_base_values.specs.declared.policy.Policy.{Policy}
use Rattle.pt_base_values.specs.declared.rider.Residence.{Residence}
use Rattle.pt_base_values.specs.declared.rider.Residence.TheVariants.{Resident, Visitor}
use Rattle.pt_base_values.specs.declared.rider.Rider.{Rider}
use Rattle.pt_base_values.specs.declared.trip.Wish.{Wish}
use Rattle.pt_base_values.specs.declared.vehicle.Vehicle.{Vehicle}
use Rattle.pt_corridor.specs.Route.{FixedRoute}
use Rattle.pt_desk_requests.specs.declared.caller.Caller.{Caller}
use Rattle.pt_desk_requests.specs.declared.request.Write.{Write}
use Rattle.pt_desk_requests.specs.declared.request.Write.TheVariants as write
use Rattle.pt_rights_files.specs.declared.entry.Entry.{Entry}
use Rattle.pt_rights_files.specs.declared.tally.Outcome.{Outcome}
use Rattle.pt_rights_files.specs.declared.tally.Outcome.TheVariants as outcome
use Rattle.pt_travel.specs.Chain.{Row}
use Rattle.pt_travel.specs.Table.{IsTable}
use Rattle.pt_desk_spelling.specs.Fields.{number_bytes, numbers_bytes, truth_bytes, optional_bytes, list_bytes}
use Rattle.pt_desk_spelling.specs.Ranges.{IsEntry, IsWish, IsRow, IsRequest}
use Rattle.pt_desk_spelling.specs.Replies.{IsId}
use Rattle.pt_desk_spelling.specs.Requests.{kind_number, outcome_number, wheelchair_bytes, rider_bytes, entry_bytes, wish_bytes, row_bytes, spelling}
use Rattle.pt_desk_spelling.proofs.EntryLemmas.{entry-same}
use Rattle.pt_desk_spelling.proofs.FieldLemmas.{four_parts, day-word, minute-word, byte-then, number-then, number-same, numbers-then, list-same, truth-then, optional-then}
use Rattle.pt_desk_spelling.proofs.SettingLemmas.{caller-same, policy-same, place-same, route-same, vehicle-same, row-then}
use Rattle.pt_desk_spelling.proofs.TableLemmas.{length-table}

-- ---- riders and trips

pub kind-same : (one other : Residence) → kind_number one ≡ kind_number other → one ≡ other
kind-same Resident Resident e = refl
kind-same Visitor Visitor e = refl
kind-same one other e = absurd (omega arith)

pub wheelchair-same : (one other : Bool) → wheelchair_bytes one ≡ wheelchair_bytes other → one ≡ other
wheelchair-same false false e = refl
wheelchair-same true true e = refl
wheelchair-same false true e = absurd (let lengths = ap (length {A = ℕ}) e in omega arith)
wheelchair-same true false e = absurd (let lengths = ap (length {A = ℕ}) e in omega arith)

pub rider-same : (one other : Rider) → IsId one.id → IsId other.id → rider_bytes one ≡ rider_bytes other → one ≡ other
rider-same one other ones others e =
    let parts : (r : Rider) → rider_bytes r ≡ number_bytes r.id ++
    (kind_number r.kind ∷ (truth_bytes r.attendant ++ wheelchair_bytes r.wheelchair)) = λ r. four_parts
    (number_bytes r.id) (kind_number r.kind ∷ []) (truth_bytes r.attendant) (wheelchair_bytes r.wheelchair) in
    let grouped = sym (parts one) ∙ e ∙ parts other in
    let id = number-then one.id other.id _ _ ones.1 others.1 grouped in
    let kind = byte-then (kind_number one.kind) (kind_number other.kind) _ _ id.1 in
    let attendant = truth-then one.attendant other.attendant _ _ kind.1 in
    let wheelchair = wheelchair-same one.wheelchair other.wheelchair attendant.1 in
    let residence = kind-same one.kind other.kind kind.0 in
    λ i. record { id = id.0 i; kind = residence i; attendant = attendant.0 i; wheelchair = wheelchair i }

pub wish-same : (one other : Wish) → IsWish one → IsWish other → wish_bytes one ≡ wish_bytes other → one ≡ other
wish-same one other ones others e =
    let ends : Wish → List ℕ = λ w. w.day ∷ w.pickup ∷ w.from ∷ w.to ∷ [] in
    let parts : (w : Wish) → wish_bytes w ≡ numbers_bytes (ends w) ++
    (optional_bytes w.by ++ (truth_bytes w.attendant ++ number_bytes w.companions)) = λ w. four_parts
    (numbers_bytes (ends w)) (optional_bytes w.by) (truth_bytes w.attendant) (number_bytes w.companions) in
    let grouped : numbers_bytes (ends one) ++ (optional_bytes one.by ++
    (truth_bytes one.attendant ++ number_bytes one.companions)) ≡ numbers_bytes (ends other) ++
    (optional_bytes other.by ++ (truth_bytes other.attendant ++ number_bytes other.companions)) = sym
    (parts one) ∙ e ∙ parts other in
    let front = numbers-then (ends one) (ends other) _ _ refl
    (day-word one.day ones.day, (minute-word one.pickup ones.pickup, (ones.from.1, (ones.to.1, tt)))) (
      day-word other.day others.day,
      (
        minute-word other.pickup others.pickup,
        (others.from.1, (others.to.1, tt)),
      ),
    ) grouped in
    let by = optional-then one.by other.by _ _ ones.by others.by front.1 in
    let attendant = truth-then one.attendant other.attendant _ _ by.1 in
    let few = ones.companions in
    let others_few = others.companions in
    let companions = number-same one.companions other.companions (omega arith) (omega arith) attendant.1 in
    λ i. record {
      day = get_or (front.0 i) 0 0;
      pickup = get_or (front.0 i) 1 0;
      from = get_or (front.0 i) 2 0;
      to =
          get_or (front.0 i) 3 0;
      by = by.0 i;
      attendant = attendant.0 i;
      companions = companions i;
    }

pub outcome-same : (one other : Outcome) → outcome_number one ≡ outcome_number other → one ≡ other
outcome-same outcome.Ridden outcome.Ridden e = refl
outcome-same outcome.MissedRider outcome.MissedRider e = refl
outcome-same outcome.MissedOperator outcome.MissedOperator e = refl
outcome-same one other e = absurd (omega arith)

-- ---- travel tables

pub rows-fit : (rows : List Row) → IsTable rows → All IsRow rows → All (λ row. IsRow row × (row.2 ≤ 1439)) rows
rows-fit rows table fits = λ k d below. (fits k d below, table.within_a_day k d below)

pub table-same : (one other : List Row) → IsTable one × All IsRow one → IsTable other × All IsRow other → list_bytes row_bytes one ≡ list_bytes row_bytes other → one ≡ other
table-same one other ones others e =
    let few = length-table one ones.0 in
    let others_few = length-table other others.0 in
    list-same (λ (row : Row). IsRow row × (row.2 ≤ 1439)) row_bytes row-then one other (omega arith) (omega arith) (rows-fit one ones.0 ones.1) (rows-fit other others.0 others.1) e

-- ---- requests

pub entered-same : (rider id : ℕ) (one other : Entry) → IsId rider × IsEntry one → IsId id × IsEntry other
    → number_bytes rider ++ entry_bytes one ≡ number_bytes id ++ entry_bytes other
    → write.Enter rider one ≡ write.Enter id other
entered-same rider id one other ones others e =
    let number = number-then rider id (entry_bytes one) (entry_bytes other) ones.0.1 others.0.1 e in
    let same = entry-same one other ones.1 others.1 number.1 in
    λ i. write.Enter (number.0 i) (same i)

pub wished-same : (make : ℕ → Wish → Write) (a b : ℕ) (one other : Wish) → IsId a × IsWish one → IsId b × IsWish other
    → number_bytes a ++ wish_bytes one ≡ number_bytes b ++ wish_bytes other → make a one ≡ make b other
wished-same make a b one other ones others e =
    let number = number-then a b (wish_bytes one) (wish_bytes other) ones.0.1 others.0.1 e in
    let same = wish-same one other ones.1 others.1 number.1 in
    λ i. make (number.0 i) (same i)

pub ended-same : (a b : ℕ) (one other : Outcome) → IsId a → IsId b
    → number_bytes a ++ outcome_number one ∷ [] ≡ number_bytes b ++ outcome_number other ∷ []
    → write.Outcome a one ≡ write.Outcome b other
ended-same a b one other ones others e =
    let number = number-then a b (outcome_number one ∷ []) (outcome_number other ∷ []) ones.1 others.1 e in
    let same = outcome-same one other (byte-then (outcome_number one) (outcome_number other) [] [] number.1).0 in
    λ i. write.Outcome (number.0 i) (same i)

pub travel-same : (a b : ℕ) (one other : List Row) → IsDay a × IsTable one × All IsRow one → IsDay b × IsTable other
    × All IsRow other → number_bytes a ++ list_bytes row_bytes one ≡ number_bytes b ++ list_bytes row_bytes other
    → write.Travel a one ≡ write.Travel b other
travel-same a b one other ones others e =
    let day = number-then a b (list_bytes row_bytes one) (list_bytes row_bytes other) (day-word a ones.0) (day-word b others.0) e in
    let rows = table-same one other (ones.1, ones.2) (others.1, others.2) day.1 in
    λ i. write.Travel (day.0 i) (rows i)

pub spelling-injective : (one other : Write) → IsRequest one → IsRequest other → spelling one ≡ spelling other → one ≡ other
spelling-injective (write.PutCaller a) (write.PutCaller b) ones others e = ap (λ (c : Caller). write.PutCaller c) (caller-same a b ones others (ap (drop 1) e))
spelling-injective (write.PutPolicy a) (write.PutPolicy b) ones others e = ap (λ (p : Policy). write.PutPolicy p) (policy-same a b (ap (drop 1) e))
spelling-injective (write.PutPlace a) (write.PutPlace b) ones others e = ap (λ (p : Place). write.PutPlace p) (place-same a b ones others (ap (drop 1) e))
spelling-injective (write.PutRoute a) (write.PutRoute b) ones others e = ap (λ (r : FixedRoute). write.PutRoute r) (route-same a b ones others (ap (drop 1) e))
spelling-injective (write.PutVehicle a) (write.PutVehicle b) ones others e = ap (λ (v : Vehicle). write.PutVehicle v) (vehicle-same a b ones others (ap (drop 1) e))
spelling-injective (write.PutRider a) (write.PutRider b) ones others e = ap (λ (r : Rider). write.PutRider r) (rider-same a b ones others (ap (drop 1) e))
spelling-injective (write.Enter rider a) (write.Enter id b) ones others e = entered-same rider id a b ones others (ap (drop 1) e)
spelling-injective (write.Book rider a) (write.Book id b) ones others e = wished-same (λ n w. write.Book n w) rider id a b ones others (ap (drop 1) e)
spelling-injective (write.Change trip a) (write.Change id b) ones others e = wished-same (λ n w. write.Change n w) trip id a b ones others (ap (drop 1) e)
spelling-injective (write.Cancel a) (write.Cancel b) ones others e = ap (λ (n : ℕ). write.Cancel n) (number-same a b ones.1 others.1 (ap (drop 1) e))
spelling-injective (write.Outcome trip a) (write.Outcome id b) ones others e = ended-same trip id a b ones others (ap (drop 1) e)
spelling-injective (write.Travel day a) (write.Travel other b) ones others e = travel-same day other a b ones others (ap (drop 1) e)
spelling-injective one other ones others e = absurd (omega (arith, ap (λ (bytes : List ℕ). get_or bytes 0 0) e))
