-- Records of a travel table's text, and the rows that they read as.
use Rattle.std.proofs.Common.{◌≡◌, ℕ, zero, suc, ◌<◌, ◌≤◌, ◌⊎◌, inl, inr, ◌↔◌, refl, sym, ap, ◌∙◌, subst, Option}
use Rattle.std.proofs.Common.{unwrap_or, List, [], ◌∷◌, ◌++◌, length, map, get_or, Contains, arith}
use Rattle.std.proofs.lemmas.Bool.{cases_lt}
use Rattle.std.proofs.lemmas.List.{map_push, get_or_append_left, get_or_push, length-append}
use Rattle.std.proofs.lemmas.List.Elements.{All-map, All-push, All-weaker, All-contains, Contains-append_left}
use Rattle.std.proofs.lemmas.List.Elements.{Contains-get_or, Contains-push}
use Rattle.csv.specs.Records.{field_at}
use Rattle.pt_base_values.specs.declared.fault.Fault.{Fault}
use Rattle.pt_travel.specs.Chain.{Row}
use Rattle.pt_travel.specs.Table.{IsNewPair, IsTable, NamesOnly, Rises}
use Rattle.pt_travel.specs.Text.{AddsRow, AreSound, BeginsWith, Conflicts, HasFault, HasRecords, IsFirstFault}
use Rattle.pt_travel.specs.Text.{IsNextFault}
use Rattle.pt_travel.specs.Text.{IsReadSoFar, IsSortedFrom, IsSound, ReadsAs, Record, field, header, number_after}
use Rattle.pt_travel.specs.Text.{row_of}
use Rattle.pt_travel.proofs.SortedLemmas.{rises-once}

-- what a record's `get` gives, and nothing past its last field
pub field-at : (fields : Record) (i : ℕ) (o : Option (List ℕ)) → o ≡ field_at fields i
    → unwrap_or o [] ≡ get_or fields i []
unfolding field_at
field-at [] i o e = rw e refl
field-at (f ∷ fs) zero o e = rw e refl
field-at (f ∷ fs) (suc i) o e = field-at fs i o e

-- three fields with these names are the header row
pub header_from : (fields : Record) → length fields ≡ 3 → get_or fields 0 [] ≡ field header 0
    → get_or fields 1 [] ≡ field header 1 → get_or fields 2 [] ≡ field header 2 → fields ≡ header
header_from [] three from to minutes = absurd (omega arith)
header_from (a ∷ []) three from to minutes = absurd (omega arith)
header_from (a ∷ b ∷ []) three from to minutes = absurd (omega arith)
header_from (a ∷ b ∷ d ∷ []) three from to minutes = rw (from, to, minutes) refl
header_from (a ∷ b ∷ d ∷ e ∷ more) three from to minutes = absurd (omega arith)

contains-push : (rows : List Row) (row other : Row)
    → Contains (rows ++ row ∷ []) other ↔ (Contains rows other ⊎ (other ≡ row))
contains-push rows row other = (found, put)
  where
    found : Contains (rows ++ row ∷ []) other → Contains rows other ⊎ (other ≡ row)
    found (j, in_j, at) = elim (cases_lt j (length rows)) [
      | inl below ↦ inl (j, below, sym (get_or_append_left rows (row ∷ []) other j below) ∙ at)
      | inr last ↦
          let e : length rows ≡ j = omega (arith, length-append rows (row ∷ [])) in
          inr (sym at ∙ get_or_push rows row other j e)
    ]

    put : Contains rows other ⊎ (other ≡ row) → Contains (rows ++ row ∷ []) other
    put (inl there) = Contains-append_left rows (row ∷ []) other there
    put (inr same) = subst (Contains (rows ++ row ∷ [])) (sym same) (Contains-push rows row)

-- in rows that rise no two conflict
apart-rises : (rows : List Row) → Rises rows → (row other : Row) → Contains rows row → Contains rows other
    → Conflicts row other → ⊥
apart-rises rows rises row other there here (from, to, minutes) =
    minutes (ap (λ (r : Row). r.2) (rises-once rows rises row other there here from to))

module _ (places : List ℕ) (records : List Record) (fields : Record) where
  sorted-more : (old new : List Row) → IsSortedFrom records old → Rises new
      → ((other : Row) → Contains new other ↔ (Contains old other ⊎ (other ≡ row_of fields)))
      → IsSortedFrom (records ++ fields ∷ []) new
  sorted-more old new sorted rises put = (rises, λ other. (into other, out other))
    where
      into : (other : Row) → Contains new other → Contains (map row_of (records ++ fields ∷ [])) other
      into other there =
          subst (λ (rows : List Row). Contains rows other) (sym (map_push row_of records fields))
          ((contains-push (map row_of records) (row_of fields) other).1
          (elim ((put other).0 there) [ inl was ↦ inl ((sorted.1 other).0 was) | inr is ↦ inr is ]))

      out : (other : Row) → Contains (map row_of (records ++ fields ∷ [])) other → Contains new other
      out other there =
          (put other).1
          (elim ((contains-push (map row_of records) (row_of fields) other).0
          (subst (λ (rows : List Row). Contains rows other) (map_push row_of records fields) there)) [
            | inl was ↦ inl ((sorted.1 other).1 was)
            | inr is ↦ inr is
          ])

  sound-more : (new : List Row) → AreSound places records → IsSound places fields
      → IsSortedFrom (records ++ fields ∷ []) new → AreSound places (records ++ fields ∷ [])
  sound-more new sound one sorted = (
    All-push (IsSound places) records fields sound.0 one,
    λ row other there here conflict. apart-rises new sorted.0 row other ((sorted.1 row).1 there)
        ((sorted.1 other).1 here) conflict,
  )

module _ (places : List ℕ) (seen : List Record) (fields : Record) where
  -- one more record
  pub so-far-more : (old new : List Row) → 0 < length seen → IsReadSoFar places seen old → IsSound places fields
      → Rises new
      → ((other : Row) → Contains new other ↔ (Contains old other ⊎ (other ≡ row_of fields)))
      → IsReadSoFar places (seen ++ fields ∷ []) new
  so-far-more old new some (inl (none, empty)) one rises put = absurd (omega (arith, ap length none))
  so-far-more old new some (inr (records, is, sound, sorted)) one rises put =
      let next = sorted-more places records fields old new sorted rises put in
      inr (
        records ++ fields ∷ [],
        ap (λ (x : List Record). x ++ fields ∷ []) is,
        sound-more places records fields new
            sound one next,
        next,
      )

  -- the next record adds a row
  pub adds-row : (rows : List Row) → 0 < length seen → IsReadSoFar places seen rows → IsSound places fields
      → IsNewPair rows (row_of fields) → AddsRow places seen fields
  adds-row rows some (inl (none, empty)) one new = absurd (omega (arith, ap length none))
  adds-row rows some (inr (records, is, sound, sorted)) one new =
      (records, is, sound, one, λ other there from to. new other ((sorted.1 other).1 there) from to)

  -- a fault below the header
  pub next-fault : (rows : List Row) (fault : Fault) → 0 < length seen → IsReadSoFar places seen rows
      → ((records : List Record) → IsSortedFrom records rows → HasFault places records fields fault.code)
      → fault.row ≡ number_after (length seen) → IsNextFault places seen fields fault
  next-fault rows fault some (inl (none, empty)) has number = absurd (omega (arith, ap length none))
  next-fault rows fault some (inr (records, is, sound, sorted)) has number =
      inr (records, is, sound, has records sorted, number)

  -- the fault of the next record is the text's first
  pub first-fault : (text : List ℕ) (fault : Fault) → length places ≤ 100 → BeginsWith text (seen ++ fields ∷ [])
      → IsNextFault places seen fields fault → IsFirstFault text places fault
  first-fault text fault few begins (inl (none, is, other)) =
      inr (inl (
        is,
        few,
        inr (
          fields,
          subst (λ (x : List Record). BeginsWith text (x ++ fields ∷ [])) none
              begins,
          other,
        ),
      ))
  first-fault text fault few begins (inr (records, is, sound, has, number)) =
      let begins_with = subst (λ (x : List Record). BeginsWith text (x ++ fields ∷ [])) is begins in
      let row = number ∙ ap (λ (x : List Record). number_after (length x)) is ∙ ap (λ (n : ℕ). number_after n)
      (omega arith) in
      inr (inr (few, (records, fields, begins_with, sound, has, row)))

pub rises-so-far : (places : List ℕ) (seen : List Record) (rows : List Row) → IsReadSoFar places seen rows → Rises rows
rises-so-far places seen rows (inl (none, empty)) = subst Rises (sym empty) (λ k in_k. absurd (omega arith))
rises-so-far places seen rows (inr (records, is, sound, sorted)) = sorted.0

-- all records of a text were read
pub reads-all : (text places : List ℕ) (seen : List Record) (rows : List Row) → length places ≤ 100 → 0 < length seen
    → HasRecords text seen → IsReadSoFar places seen rows → ReadsAs text places rows
reads-all text places seen rows few some all (inl (none, empty)) = absurd (omega (arith, ap length none))
reads-all text places seen rows few some all (inr (records, is, sound, sorted)) =
    record {
      few_places = few;
      records = records;
      all_of_them = subst (HasRecords text) is all;
      sound = sound;
      sorted = sorted;
    }

module _ (text places : List ℕ) (rows : List Row) (reads : ReadsAs text places rows) where
  sound-row : (row : Row) → Contains rows row → Contains places row.0 × Contains places row.1 × (row.2 ≤ 1439)
  sound-row row there =
      All-contains (λ (r : Row). Contains places r.0 × Contains places r.1 × (r.2 ≤ 1439)) (map row_of reads.records)
      row
      (All-map (λ (r : Row). Contains places r.0 × Contains places r.1 × (r.2 ≤ 1439)) row_of reads.records
      (All-weaker (IsSound places) (λ (r : Record). Contains places (row_of r).0 × Contains places (row_of r).1 ×
      ((row_of r).2 ≤ 1439))
      (λ r h. (h.1.0.1, h.1.1.1, h.2.1)) reads.records reads.sound.0))
      ((reads.sorted.1 row).0 there)

  -- the rows that a text reads as name its places alone
  pub names-from-reads : NamesOnly places rows
  names-from-reads k d in_k = let one = sound-row (get_or rows k d) (Contains-get_or rows k d in_k) in (one.0, one.1)

  -- and are those of a table
  pub table-from-reads : IsTable rows
  table-from-reads = record {
    in_order = reads.sorted.0;
    within_a_day = λ k d in_k. (sound-row (get_or rows k d) (Contains-get_or rows k d in_k)).2;
    few_places = (places, reads.few_places, names-from-reads);
  }
