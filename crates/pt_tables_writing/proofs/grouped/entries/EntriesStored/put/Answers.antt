use Rattle.std.proofs.Common.{[], ◌∷◌}
use Rattle.pt_desk_rules.specs.Ranges.{FitsFiled}
use Rattle.pt_desk_rules.specs.State.{entry_key}
use Rattle.pt_tables_rows.specs.Rows.{entry_row}
use Rattle.pt_tables_rows.specs.Schema.{entries_table}
use Rattle.pt_tables_writing.proofs.ChangeLemmas.{did_put}
use Rattle.pt_tables_writing.proofs.grouped.entries.EntriesStored.put.Goals as goal

pub returns : goal.returns
returns g c =
    record {
      step = did_put entries_table entry_key FitsFiled (λ e. entry_row e ∷ []) c.args.filed.now
          c.in_ok-take.ensures.step c.insert_entry.ensures.step;
    }
