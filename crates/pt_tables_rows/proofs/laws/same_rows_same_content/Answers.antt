use Rattle.pt_tables_rows.proofs.SameRows.{same_content}
use Rattle.pt_tables_rows.proofs.laws.same_rows_same_content.Goals as goal

pub returns : goal.returns
returns c one other trees ones others shows others_show = same_content one other trees ones others shows others_show
