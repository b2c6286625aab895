use Rattle.std.proofs.Common.{arith}
use Rattle.sqlite.specs.Held.{state}
use Rattle.sqlite.specs.State.{HasCleanDisk}
use Rattle.pt_desk_rules.specs.State.{applied}
use Rattle.pt_tables_keeper.proofs.WritingLemmas.{agrees_over, clean_mid, clean_old, made_then, survives_over}
use Rattle.pt_tables_keeper.proofs.writing.write_once.Goals as goal

pub returns-in-Ok-clause-made : goal.returns-in-Ok-clause-made
returns-in-Ok-clause-made g c content well agrees held clean =
    let old = state g.S.Store c.args.conn.now in
    let mid = state g.S.Store c.plans_before.new.conn in
    let new = state g.S.Store c.write_change.new.conn in
    let change = c.args.change.now in
    let rests = c.in_ok-plans.ensures.rests in
    let always = c.write_change.ensures.always in
    let plans = c.in_ok-plans.ensures.told (clean_mid old mid new rests always clean) content well (held (clean_old old mid new rests always clean)) in
    made_then old mid new rests always content (applied change content) c.requires.committed clean
    (c.in-Ok.ensures.made content well (agrees_over change c.args.known.now.content content c.in_ok-plans.plans.items well c.requires.plans agrees plans) clean)

pub returns-in-Ok-clause-survives : goal.returns-in-Ok-clause-survives
returns-in-Ok-clause-survives g c content well agrees held =
    let old = state g.S.Store c.args.conn.now in
    let mid = state g.S.Store c.plans_before.new.conn in
    let new = state g.S.Store c.write_change.new.conn in
    let change = c.args.change.now in
    let rests = c.in_ok-plans.ensures.rests in
    survives_over old mid new rests c.write_change.ensures.always content (applied change content) c.requires.committed
    (λ early.
    let was : HasCleanDisk old = omega (arith, early, rests.survives.clean) in
    c.write_change.ensures.survives content well
    (agrees_over change c.args.known.now.content content c.in_ok-plans.plans.items well c.requires.plans agrees (c.in_ok-plans.ensures.told early content well (held was))))

pub returns-clause-survives : goal.returns-clause-survives
returns-clause-survives g c content well agrees held =
    let old = state g.S.Store c.args.conn.now in
    let mid = state g.S.Store c.plans_before.new.conn in
    let new = state g.S.Store c.write_change.new.conn in
    let change = c.args.change.now in
    let rests = c.in_ok-plans.ensures.rests in
    survives_over old mid new rests c.write_change.ensures.always content (applied change content) c.requires.committed
    (λ early.
    let was : HasCleanDisk old = omega (arith, early, rests.survives.clean) in
    c.write_change.ensures.survives content well
    (agrees_over change c.args.known.now.content content c.in_ok-plans.plans.items well c.requires.plans agrees (c.in_ok-plans.ensures.told early content well (held was))))
