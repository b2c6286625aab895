use Rattle.std.proofs.Common.{[]}
use Rattle.sqlite.specs.Held.{state}
use Rattle.pt_tables_opening.proofs.BlameLemmas.{queried_blamed}
use Rattle.pt_tables_opening.proofs.RestLemmas.{queried_rests}
use Rattle.pt_tables_opening.proofs.table_rows.rows_of_table.Goals as goal

pub returns-clause-rests : goal.returns-clause-rests
returns-clause-rests g c schema plain =
    queried_rests schema c.args.text.now [] (state g.S.Store c.args.conn.now) (state g.S.Store c.query_all.new.self) c.query_all.result plain
    c.query_all.ensures.ok c.query_all.ensures.err c.query_all.ensures.mode c.query_all.ensures.survives

pub returns-clause-caused : goal.returns-clause-caused
returns-clause-caused g c schema query clean has =
    queried_blamed schema c.args.text.now query (state g.S.Store c.args.conn.now) (state g.S.Store c.query_all.new.self) has c.query_all.result (c.query_all.ensures.err clean)
