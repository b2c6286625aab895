use Rattle.std.proofs.Common.{◌≡◌, ◌∙◌, ◌<◌, ℕ, List, [], Bor, Ok, length, slice_index_or, refl, sym, ap, subst, arith}
use Rattle.std.proofs.lemmas.List.{get_or-map, length-map}
use Rattle.sqlite.specs.Held.{state}
use Rattle.sqlite.specs.State.{HasCleanDisk, Executes}
use Rattle.sqlite.proofs.StateLemmas.{survives_then}
use Rattle.pt_tables_rows.specs.Schema.{statement_count}
use Rattle.pt_tables_rows.proofs.CreateLemmas.{IsAdded, adding_begins, adding_ends, adds_next, counts, counts_rise, texts}
use Rattle.pt_tables_rows.proofs.StateLemmas.{keeps_self, keeps_then, keeps_shown, survives_self}
use Rattle.pt_tables_rows.proofs.schema.run.Goals as goal

pub loop-place-init : goal.loop-place-init
loop-place-init g c =
    let old = state g.S.Store c.args.tx.now.conn.now in
    record {
      same = refl;
      survives = survives_self old;
      keeps = λ clean inside. (keeps_self old, inside);
      made = λ clean inside order low has.
          subst (λ n. IsAdded (statement_count c.args.from) n old.now old.now) (sym c.statement_count-place.ensures.value)
          (adding_begins c.args.from (omega (arith, order, low)) old.now has);
    }

pub loop-place-preserved : goal.loop-place-preserved
loop-place-preserved g c =
    let old = state g.S.Store c.args.tx.now.conn.now in
    let mid = state g.S.Store c.loop-place.tx.conn.now in
    let new = state g.S.Store c.execute.new.self.conn.now in
    let n = c.loop-place.place in
    let given : List (Bor (List ℕ)) = c.args.statements.now in
    let all : length given ≡ length texts = sym (length-map given (λ (t : Bor (List ℕ)). t.now)) ∙ ap length c.requires.all in
    let low : n < length texts = omega (arith, c.loop-place-test.true, c.statement_count-place-end.ensures.value, counts c.args.to) in
    record {
      same = c.in_ok-execute.ensures.same_reference ∙ c.loop-place.invariant.same;
      survives = survives_then old mid new (λ _. ⊥) (λ _. ⊥) (λ _. ⊥) (λ _ db no_db. no_db) (λ _ db no_db. no_db) c.loop-place.invariant.survives c.in_ok-execute.ensures.survives;
      keeps = λ clean inside.
          let early : HasCleanDisk mid = omega (arith, c.in_ok-execute.ensures.survives.clean) in
          let before = c.loop-place.invariant.keeps early inside in
          let ran = c.in_ok-execute.ensures.runs clean before.1 in
          (keeps_then old mid new before.0 (keeps_shown mid new ran.1), ran.1.mode);
      made = λ clean inside order top has.
          let early : HasCleanDisk mid = omega (arith, c.in_ok-execute.ensures.survives.clean) in
          let before = c.loop-place.invariant.keeps early inside in
          let made = c.loop-place.invariant.made early inside order top has in
          let ran = c.in_ok-execute.ensures.runs clean before.1 in
          adds_next (statement_count c.args.from) n low old.now mid new c.in_ok-execute.field-0 made
          (subst (λ t. Executes t [] mid new (Ok c.in_ok-execute.field-0))
          (sym (get_or-map (λ (t : Bor (List ℕ)). t.now) given n _ [] (omega (arith, low, all)))
          ∙ ap (λ ts. slice_index_or ts n []) c.requires.all) ran.0);
    }

pub returns : goal.returns
returns g c =
    let old = state g.S.Store c.args.tx.now.conn.now in
    let now = state g.S.Store c.loop-place.tx.conn.now in
    record {
      step = record {
        same_reference = c.loop-place.invariant.same;
        survives = c.loop-place.invariant.survives;
        led = λ clean inside.
            let kept = c.loop-place.invariant.keeps clean inside in (
              kept.0,
              kept.1,
              λ order top has. adding_ends c.args.from c.args.to order top old.now now.now
                  (subst (λ n. IsAdded (statement_count c.args.from) n old.now now.now) (omega (
                    arith,
                    c.loop-place-test.false,
                    c.loop-place.auto.place-end,
                    c.statement_count-place.ensures.value,
                    c.statement_count-place-end.ensures.value,
                    counts_rise c.args.from c.args.to order,
                  )) (c.loop-place.invariant.made clean inside order top has)),
            );
      };
    }
