use Rattle.std.proofs.Common.{take, sym, subst, Contains, arith}
use Rattle.std.proofs.lemmas.List.{get_or_read, take_all}
use Rattle.std.proofs.lemmas.List.Elements.{All-more, All-weaker}
use Rattle.pt_travel.specs.Chain.{Row}
use Rattle.pt_travel.specs.Places.{list_of}
use Rattle.pt_travel.proofs.PlaceLemmas.{crowded, distinct-take, put-kept}
use Rattle.pt_travel.proofs.places.Places.of.Goals as goal
use Rattle.pt_travel.proofs.places.Places.of.Goals.{then-not-insert-via-then-not-insert}
use Rattle.pt_travel.proofs.places.Places.of.Goals.{then-not-insert-via-else-not-insert+then-not-insert-2}

pub returns-then-not-insert-clause-too_many : goal.returns-then-not-insert-clause-too_many
returns-then-not-insert-clause-too_many c none list names =
    let old = c.loop-row.places in
    let middle = c.insert.new.self in
    let row = c.row-item.result in
    let ends : Contains list row.0 × Contains list row.1 =
    subst (λ (r : Row). Contains list r.0 × Contains list r.1) (sym c.row-item.is)
    (names c.loop-row.row-index row (omega arith)) in
    let needed = c.loop-row.invariant.needed list names in
    elim c.then-not-insert.branch [
      | then-not-insert-via-then-not-insert w ↦
          let full = w.if-not-insert.ensures.full in
          omega (
            arith,
            full.0,
            crowded (list_of old) list row.0 (distinct-take old.numbers old.len old.distinct)
                full.1 needed ends.0,
          )
      | then-not-insert-via-else-not-insert+then-not-insert-2 w ↦
          let full = w.if-not-insert-2.ensures.full in
          let put = put-kept (list_of old) (list_of middle) row.0 w.if-not-insert.ensures.kept in
          omega (
            arith,
            full.0,
            crowded (list_of middle) list row.1
                (distinct-take middle.numbers middle.len middle.distinct) full.1 (put.needs list needed ends.0) ends.1,
          )
    ]

pub loop-row-preserved : goal.loop-row-preserved
loop-row-preserved c =
    let old = list_of c.loop-row.places in
    let middle = list_of c.insert.new.self in
    let new = list_of c.insert-else-not-insert.new.self in
    let row = c.row-item.result in
    let first = put-kept old middle row.0 c.if-not-insert.ensures.kept in
    let second = put-kept middle new row.1 c.if-not-insert-2.ensures.kept in
    let at = get_or_read c.args.rows.now c.loop-row.row-index row (omega arith) c.row-item.is (0, 0, 0) in
    record {
      named =
          All-more (λ (r : Row). Contains new r.0 × Contains new r.1) c.args.rows.now c.loop-row.row-index (0, 0, 0)
          (omega arith)
          (All-weaker (λ (r : Row). Contains old r.0 × Contains old r.1)
          (λ (r : Row). Contains new r.0 × Contains new r.1)
          (λ r h. (second.keeps r.0 (first.keeps r.0 h.0), second.keeps r.1 (first.keeps r.1 h.1)))
          (take c.loop-row.row-index c.args.rows.now) c.loop-row.invariant.named)
          (subst (λ (r : Row). Contains new r.0 × Contains new r.1) at (second.keeps row.0 first.has, second.has));
      needed = λ list names.
          let ends : Contains list row.0 × Contains list row.1 =
          subst (λ (r : Row). Contains list r.0 × Contains list r.1) (sym c.row-item.is)
          (names c.loop-row.row-index row (omega arith)) in
          second.needs list (first.needs list (c.loop-row.invariant.needed list names) ends.0) ends.1;
    }

pub returns-clause-named : goal.returns-clause-named
returns-clause-named c = rw (take_all c.loop-row.row-index c.args.rows.now (omega arith)) at c.loop-row.invariant.named
