use Rattle.std.proofs.Common.{codes}
use Rattle.sqlite.specs.Held.{state}
use Rattle.pt_tables_keeper.proofs.WritingLemmas.{rests_asked}
use Rattle.pt_tables_keeper.proofs.writing.refusal_of.Goals as goal

pub returns-after-prepare-clause-rests : goal.returns-after-prepare-clause-rests
returns-after-prepare-clause-rests g c =
    rests_asked (state g.S.Store c.args.conn.now) (state g.S.Store c.prepare.new.self) (codes "SELECT 1") _ c.prepare.result c.prepare.ensures.ok c.prepare.ensures.err
    (c.prepare.ensures.mode c.requires.settled) c.requires.committed c.prepare.ensures.survives
