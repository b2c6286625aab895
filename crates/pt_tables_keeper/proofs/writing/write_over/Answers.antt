use Rattle.std.proofs.Common.{◌≡◌, ◌∙◌, Err, sym}
use Rattle.sqlite.specs.Held.{state}
use Rattle.pt_desk_rules.specs.State.{applied}
use Rattle.pt_tables_asking.specs.declared.asking.Unread.{Unread}
use Rattle.pt_tables_asking.specs.declared.asking.Unread.TheVariants.{Memory as Wanted}
use Rattle.pt_tables_writing.specs.Committing.{LeadsTo}
use Rattle.pt_tables_keeper.proofs.WritingLemmas.{survives_further, undone_further}
use Rattle.pt_tables_keeper.proofs.writing.write_over.Goals as goal

pub refusal_of-requires-clause-committed : goal.refusal_of-requires-clause-committed
refusal_of-requires-clause-committed g c clean here =
    let undone = c.in-Err.ensures.undone clean in
    undone.now here ∙ sym (undone.committed here)

pub returns-in-Err-clause-undone : goal.returns-in-Err-clause-undone
returns-in-Err-clause-undone g c clean =
    undone_further (state g.S.Store c.args.conn.now) (state g.S.Store c.write_once.new.conn) (state g.S.Store c.refusal_of.new.conn) c.refusal_of.ensures.rests c.in-Err.ensures.undone clean

pub returns-in-Err-clause-survives : goal.returns-in-Err-clause-survives
returns-in-Err-clause-survives g c content well agrees held =
    let old = state g.S.Store c.args.conn.now in
    survives_further old (state g.S.Store c.write_once.new.conn) (state g.S.Store c.refusal_of.new.conn) (LeadsTo content (applied c.args.change.now content) old)
    (c.write_once.ensures.survives content well agrees held) c.refusal_of.ensures.rests

pub returns-in-Err-clause-open : goal.returns-in-Err-clause-open
returns-in-Err-clause-open g c clean is =
    let same : c.refusal_of.result ≡ Wanted = cc in
    c.refusal_of.ensures.open clean same
