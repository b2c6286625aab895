use Rattle.std.proofs.Common.{subst, sym}
use Rattle.pt_desk_rules.specs.State.{State}
use Rattle.pt_tables_opening.specs.Tables.{IsLaidIn}
use Rattle.pt_tables_opening.proofs.TableCases.{ranges_laid}
use Rattle.pt_tables_opening.proofs.whole.judge.Goals as goal

-- the records were read from rows
pub is_sound_in-requires-clause-ranges : goal.is_sound_in-requires-clause-ranges
is_sound_in-requires-clause-ranges c =
    ranges_laid c.in_ok-keeper.keeper.content c.args.table (subst (λ (s : State). IsLaidIn s c.args.table) (sym c.in_ok-keeper.ensures.content) c.requires.laid)
