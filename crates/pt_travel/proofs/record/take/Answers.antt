use Rattle.std.proofs.Common.{◌≡◌, ◌⊎◌, inl, inr, ◌↔◌, Contains, Result, Ok, Err, OnOk, ap, ◌∙◌, subst, arith}
use Rattle.std.proofs.lemmas.Result.{IfErr-weaker}
use Rattle.pt_base_values.specs.declared.fault.Fault.{Fault}
use Rattle.pt_travel.specs.Chain.{Row}
use Rattle.csv.specs.Records.{fields_of}
use Rattle.pt_travel.specs.Places.{list_of}
use Rattle.pt_travel.specs.Table.{IsNewPair}
use Rattle.pt_travel.specs.Text.{Conflicts}
use Rattle.pt_travel.proofs.RecordLemmas.{adds-row, next-fault, so-far-more}
use Rattle.pt_travel.proofs.record.take.Goals as goal

both-ok : {X E : Type 0} (A B C : Type 0) (r : Result X E) → (A → B → C) → OnOk r A → OnOk r B → OnOk r C
both-ok A B C (Ok x) f a b = f a b
both-ok A B C (Err e) f a b = tt

pub returns-in-Ok-clause-taken : goal.returns-in-Ok-clause-taken
returns-in-Ok-clause-taken c =
    let new = c.put.new.rows.items in
    let fields = fields_of c.args.given.now in
    let (sound, is) = c.in-Ok.ensures.sound in
    both-ok _ _ _ c.put.result
    (λ rises rows seen number so_far.
    so-far-more (list_of c.args.places.now) seen fields c.args.rows.now.items new (omega (arith, number)) so_far sound
    rises
    (subst (λ (r : Row). (other : Row) → Contains new other ↔ (Contains c.args.rows.now.items other ⊎ (other ≡ r))) is
    rows))
    c.put.ensures.rises c.put.ensures.rows

pub returns-in-Ok-clause-faulty : goal.returns-in-Ok-clause-faulty
returns-in-Ok-clause-faulty c =
    let fields = fields_of c.args.given.now in
    let (sound, is) = c.in-Ok.ensures.sound in
    IfErr-weaker c.put.result _ _
    (λ fault why seen number so_far. elim why [
      | inl memory ↦
          let (at, new) = memory in
          inl (
            at,
            adds-row (list_of c.args.places.now) seen fields c.args.rows.now.items (omega (arith, number)) so_far sound
                (subst (IsNewPair c.args.rows.now.items) is new),
          )
      | inr pair ↦
          let (at, other, there, conflict) = pair in
          inr
          (next-fault (list_of c.args.places.now) seen fields c.args.rows.now.items fault (omega (arith, number)) so_far
          (λ records sorted.
          inr (inr (inr (
            ap (λ (f : Fault). f.code) at,
            sound,
            other,
            (sorted.1 other).0 there,
            subst
                (λ (r : Row). Conflicts r other) is conflict,
          ))))
          (ap (λ (f : Fault). f.row) at ∙ number))
    ])
    c.put.ensures.refused

pub returns-in-Err-clause-faulty : goal.returns-in-Err-clause-faulty
returns-in-Err-clause-faulty c =
    rw c.at.ensures
    (λ seen number so_far.
    inr
    (next-fault (list_of c.args.places.now) seen (fields_of c.args.given.now) c.args.rows.now.items _
    (omega (arith, number))
    so_far (λ records sorted. c.in-Err.ensures.faulty records) number))
