use Rattle.std.proofs.Common.{arith}
use Rattle.pt_desk_rules.specs.Sound.{IsOfPlaces}
use Rattle.pt_tables_soundness.proofs.EachLemmas.{each_past, fails_at, holds_all}
use Rattle.pt_tables_soundness.proofs.travel.are_of_places.Goals as goal

pub loop-table-preserved : goal.loop-table-preserved
loop-table-preserved c =
    each_past (IsOfPlaces c.args.places.now.items) c.table-item.result c.args.tables.now c.loop-table.table-index (omega arith) c.table-item.is
    (c.is_of_places.ensures.0 c.if-not-is_of_places.false) c.loop-table.invariant

pub returns-then-not-is_of_places : goal.returns-then-not-is_of_places
returns-then-not-is_of_places c =
    fails_at (IsOfPlaces c.args.places.now.items) c.table-item.result c.args.tables.now c.loop-table.table-index c.is_of_places.result (omega arith) c.table-item.is
    c.is_of_places.ensures.1 c.if-not-is_of_places.true

pub returns : goal.returns
returns c = holds_all (IsOfPlaces c.args.places.now.items) c.args.tables.now c.loop-table.table-index (omega arith) c.loop-table.invariant
