use Rattle.sqlite.specs.Held.{state}
use Rattle.pt_tables_rows.specs.Schema.{desk_schema, desk_table, schema_of}
use Rattle.pt_tables_opening.specs.declared.table_rows.TheConstants.{DESK_ROWS}
use Rattle.pt_tables_opening.proofs.AskedRows.{desk_rows_text, earlier_rows_text}
use Rattle.pt_tables_opening.proofs.ShownRows.{serves_all, shows_all}
use Rattle.pt_tables_opening.proofs.table_rows.desk_rows.Goals as goal

pub returns-clause-rows : goal.returns-clause-rows
returns-clause-rows g c clean has =
    shows_all desk_schema 1 desk_table DESK_ROWS.now desk_rows_text (state g.S.Store c.args.conn.now) (state g.S.Store c.rows_of_table.new.conn)
    has c.rows_of_table.result (c.rows_of_table.ensures.shown clean)

pub returns-clause-rests : goal.returns-clause-rests
returns-clause-rests g c = c.rows_of_table.ensures.rests desk_schema desk_rows_text.plain

pub returns-clause-earlier_rows : goal.returns-clause-earlier_rows
returns-clause-earlier_rows g c clean version early has =
    shows_all (schema_of version) 1 desk_table DESK_ROWS.now (earlier_rows_text version early) (state g.S.Store c.args.conn.now) (state g.S.Store c.rows_of_table.new.conn)
    has c.rows_of_table.result (c.rows_of_table.ensures.shown clean)

pub returns-clause-earlier_rests : goal.returns-clause-earlier_rests
returns-clause-earlier_rests g c version early = c.rows_of_table.ensures.rests (schema_of version) (earlier_rows_text version early).plain

pub returns-clause-caused : goal.returns-clause-caused
returns-clause-caused g c clean has = c.rows_of_table.ensures.caused desk_schema (serves_all desk_schema 1 desk_table DESK_ROWS.now desk_rows_text) clean has

pub returns-clause-earlier_caused : goal.returns-clause-earlier_caused
returns-clause-earlier_caused g c clean version early has =
    c.rows_of_table.ensures.caused (schema_of version) (serves_all (schema_of version) 1 desk_table DESK_ROWS.now (earlier_rows_text version early)) clean has
