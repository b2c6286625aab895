use Rattle.std.proofs.Common.{Bor, ◌≡◌, ℕ, ◌≤◌, ◌∙◌, ◌⊎◌, inl, inr, ap, sym, List, length, arith}
use Rattle.std.proofs.lemmas.List.{length-take}
use Rattle.std.proofs.lemmas.Result.{err_from_is_err_and}
use Rattle.csv.specs.Reading.{Reached, strip_bom}
use Rattle.pt_base_values.specs.Fault.{fault_at}
use Rattle.pt_base_values.specs.declared.fault.Cause.TheVariants as cause
use Rattle.pt_travel.specs.Places.{list_of}
use Rattle.pt_travel.specs.Reader.{BytesReader, LacksMemory}
use Rattle.pt_travel.specs.Text.{IsFirstFault}
use Rattle.pt_travel.specs.declared.places.Places.{Places}
use Rattle.pt_travel.proofs.RecordLemmas.{names-from-reads, table-from-reads}
use Rattle.pt_travel.proofs.SamePlaces.{first-fault-code, first-fault-same, lacks-same, reads-same}
use Rattle.pt_travel.proofs.raw.Raw.read.Goals as goal

few : (places : Places) → length (list_of places) ≤ 100
few places = omega (arith, places.within, length-take places.len places.numbers)

pub read_rows-requires-clause-start : goal.read_rows-requires-clause-start
unfolding Reached
read_rows-requires-clause-start c =
    let fr = c.from_reader-reader.ensures in
    let built = c.flexible.ensures in
    let headers = c.has_headers.ensures in
    let trim = rw (built, headers) at fr.trim in
    let named = rw (built, headers) at fr.has_headers in
    let config = rw (built, headers) at fr.config in
    record {
      untrimmed = trim ∙ c.new.ensures.trim;
      ready = inr (inr (named, fr.headers));
      config = config ∙ c.new.ensures.config;
      rest = strip_bom c.args.text.now;
      source = fr.source;
      reached = (sym fr.state, ap (λ (bytes : Bor (List ℕ)). strip_bom bytes.now) fr.rdr);
    }

pub returns-in_err-rows-clause-faulty : goal.returns-in_err-rows-clause-faulty
returns-in_err-rows-clause-faulty c =
    let p = err_from_is_err_and c.from_residual.result c.from_residual.ensures.1 in
    let text = c.args.text.now in
    let places = c.args.places.now in
    let fault = c.in_err-rows.field-0.0 in
    let of = list_of c.from_list-places.result in
    let same = c.from_list-places.ensures in
    let why : (fault ≡ fault_at cause.Memory 0) ⊎ IsFirstFault text places fault =
    elim (rw c.from_reader-reader.ensures.rdr at c.in_err-rows.ensures.faulty) [
      | inl memory ↦ inl memory.0
      | inr first ↦
          inr (first-fault-same of places same text fault (few c.from_list-places.result) (omega arith) first)
    ]
    in
    rw (p.1, p.2) why

pub returns-in_err-rows-clause-memory : goal.returns-in_err-rows-clause-memory
returns-in_err-rows-clause-memory c =
    let p = err_from_is_err_and c.from_residual.result c.from_residual.ensures.1 in
    let text = c.args.text.now in
    let places = c.args.places.now in
    let fault = c.in_err-rows.field-0.0 in
    let of = list_of c.from_list-places.result in
    let same = c.from_list-places.ensures in
    let reader = c.read_rows.new.reader in
    let why : fault.code ≡ 0 → (length places ≤ 100) × (reader : BytesReader) × LacksMemory text places reader =
    λ none.
    elim (rw c.from_reader-reader.ensures.rdr at c.in_err-rows.ensures.faulty) [
      | inl memory ↦ (omega arith, reader, lacks-same of places same text reader memory.1)
      | inr first ↦ absurd (first-fault-code text of fault first none)
    ]
    in
    rw (p.1, p.2) why

pub naming-requires-clause-table : goal.naming-requires-clause-table
naming-requires-clause-table c =
    table-from-reads c.args.text.now (list_of c.from_list-places.result) c.in_ok-rows.rows.items
    (rw c.from_reader-reader.ensures.rdr at c.in_ok-rows.ensures.reads)

pub naming-requires-clause-named : goal.naming-requires-clause-named
naming-requires-clause-named c =
    names-from-reads c.args.text.now (list_of c.from_list-places.result) c.in_ok-rows.rows.items
    (rw c.from_reader-reader.ensures.rdr at c.in_ok-rows.ensures.reads)

pub returns-clause-reads : goal.returns-clause-reads
returns-clause-reads c =
    let reads = rw c.from_reader-reader.ensures.rdr at c.in_ok-rows.ensures.reads in
    rw c.naming.ensures
    (reads-same (list_of c.from_list-places.result) c.args.places.now c.from_list-places.ensures c.args.text.now
    c.in_ok-rows.rows.items (omega arith) reads)
