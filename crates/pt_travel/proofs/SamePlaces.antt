-- What a text reads as for a list of places depends on which places are in it alone.
use Rattle.std.proofs.Common.{◌≡◌, ℕ, ◌≤◌, inl, inr, ◌↔◌, ap, List, length, Contains, arith}
use Rattle.std.proofs.lemmas.List.Elements.{All-weaker}
use Rattle.pt_base_values.specs.declared.fault.Fault.{Fault}
use Rattle.pt_travel.specs.Chain.{Row}
use Rattle.pt_travel.specs.Reader.{BytesReader, LacksMemory}
use Rattle.pt_travel.specs.Text.{AreSound, HasFault, IsFirstFault, IsSound, NamesPlaces, ReadsAs, Record}

names-same : (places others : List ℕ) → ((p : ℕ) → Contains places p → Contains others p) → (fields : Record)
    → NamesPlaces places fields → NamesPlaces others fields
names-same places others into fields (from, to) = ((from.0, into _ from.1), (to.0, into _ to.1))

module _ (places others : List ℕ) (same : (p : ℕ) → Contains places p ↔ Contains others p) where
  sound-same : (fields : Record) → IsSound places fields → IsSound others fields
  sound-same fields (three, names, minutes) = (three, names-same places others (λ p. (same p).0) fields names, minutes)

  all-same : (records : List Record) → AreSound places records → AreSound others records
  all-same records (sound, apart) = (All-weaker (IsSound places) (IsSound others) sound-same records sound, apart)

  fault-same : (earlier : List Record) (fields : Record) (code : ℕ) → HasFault places earlier fields code
      → HasFault others earlier fields code
  fault-same earlier fields code (inl few) = inl few
  fault-same earlier fields code (inr (inl (is, three, other))) =
      inr (inl (is, three, λ names. other (names-same others places (λ p. (same p).1) fields names)))
  fault-same earlier fields code (inr (inr (inl (is, three, names, other)))) =
      inr (inr (inl (is, three, names-same places others (λ p. (same p).0) fields names, other)))
  fault-same earlier fields code (inr (inr (inr (is, sound, other, there, conflict)))) =
      inr (inr (inr (is, sound-same fields sound, other, there, conflict)))

  -- memory ran out in a text for these places, and so it did for the others
  pub lacks-same : (text : List ℕ) (reader : BytesReader) → LacksMemory text places reader
      → LacksMemory text others reader
  lacks-same text reader (inl failed) = inl failed
  lacks-same text reader (inr (seen, fields, given, adds)) =
      let (records, is, sound, one, new) = adds in
      inr (seen, fields, given, (records, is, all-same records sound, sound-same fields one, new))

  pub reads-same : (text : List ℕ) (rows : List Row) → length others ≤ 100 → ReadsAs text places rows
      → ReadsAs text others rows
  reads-same text rows few reads =
      record {
        few_places = few;
        records = reads.records;
        all_of_them = reads.all_of_them;
        sound = all-same reads.records reads.sound;
        sorted = reads.sorted;
      }

  pub first-fault-same : (text : List ℕ) (fault : Fault) → length places ≤ 100 → length others ≤ 100
      → IsFirstFault text places fault → IsFirstFault text others fault
  first-fault-same text fault few few' (inl (is, many)) = absurd (omega arith)
  first-fault-same text fault few few' (inr (inl (is, _, lacks))) = inr (inl (is, few', lacks))
  first-fault-same text fault few few' (inr (inr (_, (earlier, fields, begins, sound, has, number)))) =
      inr (inr (
        few',
        (
          earlier,
          fields,
          begins,
          all-same earlier sound,
          fault-same earlier fields fault.code
              has,
          number,
        ),
      ))

-- a fault of a text is not out of memory
pub fault-code : (places : List ℕ) (earlier : List Record) (fields : Record) (code : ℕ)
    → HasFault places earlier fields code → code ≡ 0 → ⊥
fault-code places earlier fields code (inl few) none = omega (arith, few.0)
fault-code places earlier fields code (inr (inl place)) none = omega (arith, place.0)
fault-code places earlier fields code (inr (inr (inl minutes))) none = omega (arith, minutes.0)
fault-code places earlier fields code (inr (inr (inr pair))) none = omega (arith, pair.0)

pub first-fault-code : (text places : List ℕ) (fault : Fault) → IsFirstFault text places fault → fault.code ≡ 0 → ⊥
first-fault-code text places fault (inl many) none = omega (arith, ap (λ (f : Fault). f.code) many.0)
first-fault-code text places fault (inr (inl lacks)) none = omega (arith, ap (λ (f : Fault). f.code) lacks.0)
first-fault-code text places fault (inr (inr (few, (earlier, fields, begins, sound, has, row)))) none =
    fault-code places earlier fields fault.code has none
