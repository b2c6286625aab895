use Rattle.std.proofs.Common.{arith}
use Rattle.pt_http_exchange.proofs.AnsweringLemmas.{goes_nowhere}
use Rattle.pt_http_rehearsal.proofs.RehearsalLemmas.{begun, stopped_here, memory_cause_no_line}
use Rattle.pt_http_rehearsal.proofs.ServedLemmas.{served_here, serving_begun}
use Rattle.pt_http_rehearsal.proofs.rehearsal.rehearse.Goals as goal

pub returns-in_default-clause-goes : goal.returns-in_default-clause-goes
returns-in_default-clause-goes g c = goes_nowhere (g.K.Keeper.store c.args.keeper.now)

pub returns-in_default-clause-stopped : goal.returns-in_default-clause-stopped
returns-in_default-clause-stopped g c = λ clean input has.
    stopped_here g.R.Read.remaining input _ _ _ _ c.args.inbox.now c.of.result
    (begun g.R.Read.remaining input _ _ c.args.inbox.now has) (omega arith)
    (λ line. absurd (memory_cause_no_line c.of.result c.of.ensures.code line))

pub returns-in_default-clause-served : goal.returns-in_default-clause-served
returns-in_default-clause-served g c = λ clean.
    served_here _ _ _ _ _ (serving_begun _ _) (omega arith)
