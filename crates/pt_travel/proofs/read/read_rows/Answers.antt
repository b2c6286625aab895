use Rattle.std.proofs.Common.{◌≡◌, ◌≤◌, ◌⊎◌, inl, inr, refl, subst, List, [], ◌∷◌, ◌++◌, length, arith}
use Rattle.std.proofs.lemmas.List.{length-append, length-take}
use Rattle.std.proofs.lemmas.Result.{err_from_is_err_and}
use Rattle.csv.specs.Reading.{reader_source}
use Rattle.csv.specs.Records.{fields_of}
use Rattle.pt_base_values.specs.Fault.{fault_at}
use Rattle.pt_base_values.specs.declared.fault.Cause.TheVariants as cause
use Rattle.pt_travel.specs.Places.{list_of}
use Rattle.pt_travel.specs.Reader.{HasGiven, LacksMemory}
use Rattle.pt_travel.specs.Text.{HasRecords, IsFirstFault}
use Rattle.pt_travel.specs.declared.places.Places.{Places}
use Rattle.pt_travel.proofs.ReaderLemmas.{given-all, given-less, given-more}
use Rattle.pt_travel.proofs.RecordLemmas.{first-fault, reads-all, rises-so-far}
use Rattle.pt_travel.proofs.read.read_rows.Goals as goal
use Rattle.pt_travel.proofs.read.read_rows.Goals.{After-take}

pub loop-rows-init : goal.loop-rows-init
loop-rows-init c = record {
  seen = [];
  given = c.requires.start;
  so_far = inl (refl, c.new-rows.ensures.items);
  flexible = c.requires.flexible;
  number = refl;
}

pub next_record-requires-clause-untrimmed : goal.next_record-requires-clause-untrimmed
next_record-requires-clause-untrimmed c = c.loop-rows.invariant.given.untrimmed

pub next_record-requires-clause-ready : goal.next_record-requires-clause-ready
next_record-requires-clause-ready c = c.loop-rows.invariant.given.ready

pub next_record-requires-clause-flexible : goal.next_record-requires-clause-flexible
next_record-requires-clause-flexible c = c.loop-rows.invariant.flexible

pub take-requires : goal.take-requires
take-requires c =
    rises-so-far (list_of c.args.places.now) c.loop-rows.invariant.seen c.loop-rows.rows.items
    c.loop-rows.invariant.so_far

pub loop-rows-smaller : goal.loop-rows-smaller
loop-rows-smaller c =
    let inv = c.loop-rows.invariant in
    let reads = rw c.if-branch.true at c.in_ok-next_record.ensures.reads in
    given-less (reader_source c.args.reader.now).now inv.seen c.loop-rows.reader c.next_record.new.reader
    (fields_of c.next_record.new.given) inv.given reads

-- what was given with the record of this turn
given : (c : After-take)
    → HasGiven (reader_source c.args.reader.now).now (c.loop-rows.invariant.seen ++ fields_of c.next_record.new.given ∷ [])
    c.next_record.new.reader
given c =
    let inv = c.loop-rows.invariant in
    let reads = rw c.if-branch.true at c.in_ok-next_record.ensures.reads in
    let ready = c.in_ok-next_record.ensures.ready c.if-branch.true in
    given-more (reader_source c.args.reader.now).now inv.seen c.loop-rows.reader c.next_record.new.reader
    (fields_of c.next_record.new.given) inv.given reads ready

pub loop-rows-preserved : goal.loop-rows-preserved
loop-rows-preserved c =
    let inv = c.loop-rows.invariant in
    let fields = fields_of c.next_record.new.given in
    record {
      seen = inv.seen ++ fields ∷ [];
      given = given ((goal.at.loop-rows-preserved c).After-take);
      so_far = c.in_ok-take.ensures.taken inv.seen (omega (arith, inv.number, c.saturating_add-number.ensures))
          inv.so_far;
      flexible = c.in_ok-next_record.ensures.flexible;
      number = omega (arith, inv.number, c.saturating_add-number.ensures, length-append inv.seen (fields ∷ []));
    }

few : (places : Places) → length (list_of places) ≤ 100
few places = omega (arith, places.within, length-take places.len places.numbers)

pub returns-in_err-take-clause-faulty : goal.returns-in_err-take-clause-faulty
returns-in_err-take-clause-faulty c =
    let p = err_from_is_err_and c.from_residual-in_err-take.result c.from_residual-in_err-take.ensures.1 in
    let inv = c.loop-rows.invariant in
    let fault = c.in_err-take.field-0.0 in
    let after = given ((goal.at.returns-in_err-take-clause-faulty c).After-take) in
    let places = list_of c.args.places.now in
    let fields = fields_of c.next_record.new.given in
    let text = (reader_source c.args.reader.now).now in
    let reader = c.next_record.new.reader in
    let why : ((fault ≡ fault_at cause.Memory 0) × LacksMemory text places reader) ⊎ IsFirstFault text places fault =
    elim (c.in_err-take.ensures.faulty inv.seen (omega (arith, inv.number, c.saturating_add-number.ensures))
    inv.so_far) [
      | inl memory ↦ inl (memory.0, inr (inv.seen, fields, after, memory.1))
      | inr next ↦
          inr
          (first-fault places inv.seen fields text fault (few c.args.places.now)
          (reader.state, after.rest, after.reached) next)
    ]
    in
    rw (p.1, p.2) why

empty : {X : Type 0} → (xs : List X) → length xs ≡ 0 → xs ≡ []
empty [] none = refl
empty (x ∷ xs) none = absurd (omega arith)

pub returns-then-number-eq0-clause-faulty : goal.returns-then-number-eq0-clause-faulty
returns-then-number-eq0-clause-faulty c =
    let inv = c.loop-rows.invariant in
    let reads = rw c.if-branch.false at c.in_ok-next_record.ensures.reads in
    let all = given-all (reader_source c.args.reader.now).now inv.seen c.loop-rows.reader c.next_record.new.reader
    (fields_of c.next_record.new.given) inv.given reads in
    inr (inr (inl (
      c.at.ensures,
      few c.args.places.now,
      inl
          (subst (HasRecords (reader_source c.args.reader.now).now) (empty inv.seen (omega (arith, inv.number))) all),
    )))

pub returns-clause-reads : goal.returns-clause-reads
returns-clause-reads c =
    let inv = c.loop-rows.invariant in
    let reads = rw c.if-branch.false at c.in_ok-next_record.ensures.reads in
    let all = given-all (reader_source c.args.reader.now).now inv.seen c.loop-rows.reader c.next_record.new.reader
    (fields_of c.next_record.new.given) inv.given reads in
    reads-all (reader_source c.args.reader.now).now (list_of c.args.places.now) inv.seen c.loop-rows.rows.items
    (few c.args.places.now) (omega (arith, inv.number)) all inv.so_far
