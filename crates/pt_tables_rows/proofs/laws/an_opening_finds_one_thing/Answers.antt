use Rattle.pt_tables_rows.proofs.SameRows.{opens_once}
use Rattle.pt_tables_rows.proofs.laws.an_opening_finds_one_thing.Goals as goal

pub returns : goal.returns
returns c = opens_once
