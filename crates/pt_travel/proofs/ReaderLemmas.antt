-- A reader of records over bytes in memory: which records it gave, and how much it has left.
use Rattle.std.proofs.Common.{ℕ, ◌+◌, ◌*◌, ◌<◌, Bool, true, false, Option, None, Some, IfSome, ◌∙◌, cond, List}
use Rattle.std.proofs.Common.{[], ◌∷◌, ◌++◌, length, inl, inr, arith}
use Rattle.std.proofs.lemmas.Bool.{cases_Bool}
use Rattle.csv.specs.Machine.{Read, ends_at_end, fields_after, field_after, is_end, next_record, step}
use Rattle.csv.specs.Reading.{NextIs, ReadRecord, ReadsNext, Ready, default_config, pending_of, source_of}
use Rattle.csv.specs.Reading.{strip_bom}
use Rattle.csv.specs.declared.parser.Config.{Config}
use Rattle.csv.specs.declared.parser.State.{State}
use Rattle.csv.specs.declared.parser.State.TheVariants as st
use Rattle.csv.proofs.ReadFacts.{rows-end, rows-more}
use Rattle.pt_travel.specs.Reader.{BytesReader, HasGiven, bytes_of}
use Rattle.pt_travel.specs.Text.{HasRecords, Record}

-- how much is left to read: each byte counts twice, and once more the record that the end of the text ends
abbrev pub left_at : State → List ℕ → ℕ
left_at s bytes = 2 * length bytes + cond (ends_at_end s) 1 0

abbrev left_in : State → Option (List ℕ) → ℕ
left_in s None = 0
left_in s (Some bytes) = left_at s bytes

abbrev pub left_of : BytesReader → ℕ
left_of reader = left_in reader.state (source_of bytes_of reader)

small : (b : Bool) → cond b 1 0 < 2
small true = omega arith
small false = omega arith

record-less : (config : Config) (s : State) (fields : List (List ℕ)) (field bytes : List ℕ)
    → IfSome (next_record config s fields field bytes) (λ p. left_at p.1 p.2 < left_at s bytes)
unfolding next_record
record-less config s fields field [] = elim (cases_Bool (ends_at_end s)) [
  | inl ends ↦ rw ends (omega arith)
  | inr not_yet ↦ rw not_yet tt
]
record-less config s fields field (c ∷ rest) = elim (cases_Bool (is_end (step config s c).1)) [
  | inl ends ↦ rw ends (omega (arith, small (ends_at_end (step config s c).0)))
  | inr on ↦
      rw on (weaker _ (record-less config (step config s c).0 (fields_after (step config s c).1 fields field)
      (field_after (step config s c).1 c field) rest))
]
  where
    weaker : (o : Option Read) → IfSome o (λ p. left_at p.1 p.2 < left_at (step config s c).0 rest)
        → IfSome o (λ p. left_at p.1 p.2 < left_at s (c ∷ rest))
    weaker None h = tt
    weaker (Some p) h = omega (arith, small (ends_at_end (step config s c).0))

next-less : (o : Option Read) (fields : Record) (s : State) (rest : List ℕ) (left : ℕ) → NextIs o true fields s rest
    → IfSome o (λ p. left_at p.1 p.2 < left) → left_at s rest < left
next-less None fields s rest left found less = cc found
next-less (Some p) fields s rest left (found, is, at, on) less = rw (at, on) less

reads-less : (s s2 : State) (bytes : List ℕ) (after : Option (List ℕ)) (fields : Record)
    → ReadsNext default_config s (Some bytes) after true fields s2 → left_in s2 after < left_at s bytes
reads-less s s2 bytes None fields reads = absurd reads
reads-less s s2 bytes (Some rest) fields reads =
    next-less (next_record default_config s [] [] bytes) fields s2 rest (left_at s bytes) reads
    (record-less default_config s [] [] bytes)

module _ (text : List ℕ) (seen : List Record) (old new : BytesReader) (fields : Record)
    (given : HasGiven text seen old) where
  -- one more record
  pub given-more : ReadRecord bytes_of old new true fields → Ready new → HasGiven text (seen ++ fields ∷ []) new
  given-more reads ready =
      let (rest, source, reached) = rows-more bytes_of old new fields default_config st.StartRecord (strip_bom text)
      given.rest seen given.config given.source given.reached reads in
      record {
        untrimmed = reads.3 ∙ given.untrimmed;
        ready = ready;
        config = reads.2 ∙ given.config;
        rest = rest;
        source = source;
        reached = reached;
      }

  -- there is no further record
  pub given-all : ReadRecord bytes_of old new false fields → HasRecords text seen
  given-all reads = (
    old.state,
    given.rest,
    given.reached,
    rows-end bytes_of old new fields default_config given.rest given.config
        given.source reads,
  )

  -- less is left
  pub given-less : ReadRecord bytes_of old new true fields → left_of new < left_of old
  given-less reads =
      let next = rw (given.config, given.source) at reads.0 in
      rw (given.source, reads.1) (reads-less old.state new.state given.rest (pending_of (bytes_of new.rdr) new) fields
      next)
