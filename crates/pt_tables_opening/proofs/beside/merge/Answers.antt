use Rattle.std.proofs.Common.{◌≡◌, ◌+◌, ◌<◌, ◌++◌, [], map, flat_map, length, drop, append-nil, sym, ap, subst, ◌∙◌, arith}
use Rattle.std.proofs.lemmas.Bool.Decides.{nat_tests}
use Rattle.std.proofs.lemmas.List.{drop_all}
use Rattle.pt_base_records.specs.Records.{Each, Edit}
use Rattle.pt_tables_opening.proofs.BesideLemmas.{Goes, goes_on, goes_out, next_from, no_rows, order_same, rows_next, whole_take}
use Rattle.pt_tables_opening.proofs.GatheredLemmas.{done_next, each_push}
use Rattle.pt_tables_opening.proofs.beside.merge.Goals as goal

pub loop-known-preserved : goal.loop-known-preserved
loop-known-preserved g c =
    let key = g.T.Record.Keyed.key in
    let row_of = g.T.First.OneRow.row_of in
    let beside_of = g.T.TableOf.rows_of in
    let Fits = g.T.TableOf.Fits in
    let known = c.args.records.now in
    let i = c.loop-known.known-index in
    let x = c.known-item.result in
    let low : i < length known = c.loop-known-test.true in
    let next = c.next_of-next.result.0 in
    let own = c.next_of-next.result.1 in
    let left = c.loop-known.left.now in
    let put = c.in_ok-put.ensures.value in
    let puts = ap (λ (e : Edit _). e.puts) put in
    record {
      away = ap (λ (e : Edit _). e.away) put ∙ c.loop-known.invariant.away;
      rows = rows_next row_of c.loop-known.found.puts c.put.new.self.puts next known i x low c.known-item.is puts c.next_of-next.ensures.same c.loop-known.invariant.rows;
      done = done_next beside_of c.loop-known.found.puts c.put.new.self.puts next left c.args.rows.now c.split_at.result.0.now c.split_at.result.1.now own puts c.split_at.ensures.front
          c.split_at.ensures.back (c.next_of-next.ensures.rows ∙ sym c.split_at.ensures.front) c.loop-known.invariant.done;
      each = subst (Each Fits) (sym puts) (each_push Fits c.loop-known.found.puts next c.loop-known.invariant.each c.next_of-next.ensures.fits);
      back = λ xs each order same have.
          let here = subst (λ ks. Goes key row_of beside_of Fits ks left) (next_from x known i low c.known-item.is) (c.loop-known.invariant.back xs each order same have) in
          subst (Goes key row_of beside_of Fits (drop (i + 1) known)) (sym c.split_at.ensures.back)
          (goes_on key row_of beside_of Fits c.requires.beside x (drop (i + 1) known) left next c.next_of-next.ensures.same own c.next_of-next.ensures.within c.next_of-next.ensures.few
          c.next_of-next.ensures.rows c.next_of-next.ensures.other here);
    }

pub returns-then-not-is_empty : goal.returns-then-not-is_empty
returns-then-not-is_empty g c = record {
  told = λ xs each order same have.
      let key = g.T.Record.Keyed.key in
      let row_of = g.T.First.OneRow.row_of in
      let beside_of = g.T.TableOf.rows_of in
      let Fits = g.T.TableOf.Fits in
      let known = c.args.records.now in
      let left = c.loop-known.left.now in
      let some : 0 < length left = grind (arith, nat_tests, c.is_empty.ensures, c.if-not-is_empty.true) in
      let over = drop_all c.loop-known.known-index known (omega (arith, c.loop-known-test.false, c.loop-known.auto.known-index-end)) in
      let out = subst (λ ks. Goes key row_of beside_of Fits ks left) over (c.loop-known.invariant.back xs each order same have) in
      let none = ap length (goes_out key row_of beside_of Fits c.requires.beside left out) in
      omega arith;
}

pub returns : goal.returns
returns g c =
    let key = g.T.Record.Keyed.key in
    let row_of = g.T.First.OneRow.row_of in
    let beside_of = g.T.TableOf.rows_of in
    let known = c.args.records.now in
    let found = c.loop-known.found.puts in
    let none : c.loop-known.left.now ≡ [] = no_rows c.loop-known.left.now (grind (arith, nat_tests, c.is_empty.ensures, c.if-not-is_empty.false)) in
    let all = whole_take c.loop-known.known-index known (omega (arith, c.loop-known-test.false, c.loop-known.auto.known-index-end)) in
    let rows = c.loop-known.invariant.rows ∙ ap (map row_of) all in
    record {
      told = (
        (c.loop-known.invariant.away, order_same key row_of beside_of g.T.TableOf.Fits c.requires.beside found known rows c.requires.order),
        rows,
        sym (append-nil (flat_map beside_of found)) ∙ ap (λ rs. flat_map beside_of found ++ rs) (sym none) ∙ c.loop-known.invariant.done,
        c.loop-known.invariant.each,
      );
    }
