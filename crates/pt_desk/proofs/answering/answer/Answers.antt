use Rattle.std.proofs.Common.{◌≡◌, arith}
use Rattle.pt_desk_rules.specs.Step.{IsOutcome}
use Rattle.pt_desk_requests.specs.declared.request.Answer.TheVariants.{Done}
use Rattle.pt_desk.proofs.AnswerLemmas.{changes_nothing, shut_out}
use Rattle.pt_desk.proofs.CrashLemmas.{lasts_call, lasts_still}
use Rattle.pt_desk.proofs.QuietLemmas.{denied, read}
use Rattle.pt_desk.proofs.SoundLemmas.{answered_sound}
use Rattle.pt_desk.proofs.answering.answer.Goals as goal

pub returns-then-failures-gt0-clause-goes : goal.returns-then-failures-gt0-clause-goes
returns-then-failures-gt0-clause-goes g c =
    shut_out (g.K.Keeper.store c.args.keeper.now) Done (IsOutcome c.args.key.now c.args.now c.args.number c.args.request.now)
    (let value : c.failures.result ≡ (g.K.Keeper.store c.args.keeper.now).failures = c.failures.ensures.value in omega (arith, value, c.if-failures-gt0.true))

pub returns-then-failures-gt0-clause-lasts : goal.returns-then-failures-gt0-clause-lasts
returns-then-failures-gt0-clause-lasts g c = lasts_still (g.K.Keeper.store c.args.keeper.now)

pub returns-clause-lasts : goal.returns-clause-lasts
returns-clause-lasts g c =
    lasts_call (g.K.Keeper.store c.args.keeper.now) (g.K.Keeper.store c.answer_by_rules.new.keeper) c.args.key.now c.args.now c.args.number c.args.request.now c.answer_by_rules.result
    (let value : c.failures.result ≡ (g.K.Keeper.store c.args.keeper.now).failures = c.failures.ensures.value in omega (arith, value, c.if-failures-gt0.false))
    c.answer_by_rules.ensures.goes

pub returns-clause-sound : goal.returns-clause-sound
returns-clause-sound g c =
    answered_sound (g.K.Keeper.store c.args.keeper.now) (g.K.Keeper.store c.answer_by_rules.new.keeper) c.args.key.now c.args.now c.args.number c.args.request.now c.answer_by_rules.result
    c.answer_by_rules.ensures.goes

pub returns-clause-fits : goal.returns-clause-fits
returns-clause-fits g c clean sound =
    c.answer_by_rules.ensures.fits clean
    (sound (let value : c.failures.result ≡ (g.K.Keeper.store c.args.keeper.now).failures = c.failures.ensures.value in omega (arith, value, c.if-failures-gt0.false)))

pub returns-clause-denied : goal.returns-clause-denied
returns-clause-denied g c =
    denied (g.K.Keeper.store c.args.keeper.now) (g.K.Keeper.store c.answer_by_rules.new.keeper) c.args.key.now c.args.now c.args.number c.args.request.now c.answer_by_rules.result
    c.answer_by_rules.ensures.goes

pub returns-clause-read : goal.returns-clause-read
returns-clause-read g c =
    read (g.K.Keeper.store c.args.keeper.now) (g.K.Keeper.store c.answer_by_rules.new.keeper) c.args.key.now c.args.now c.args.number c.args.request.now c.answer_by_rules.result
    c.answer_by_rules.ensures.goes

pub returns-clause-quiet : goal.returns-clause-quiet
returns-clause-quiet g c none o clean =
    (changes_nothing (g.K.Keeper.store c.args.keeper.now) (g.K.Keeper.store c.answer_by_rules.new.keeper)
    (IsOutcome c.args.key.now c.args.now c.args.number c.args.request.now) c.answer_by_rules.result
    c.answer_by_rules.ensures.goes (λ told left agrees is. none told left is)).found clean o
