use Rattle.std.proofs.Common.{◌≡◌, Err, IfErr, sym, subst, arith, rules}
use Rattle.sqlite.specs.Held.{state}
use Rattle.sqlite.specs.State.{HasCleanDisk}
use Rattle.sqlite.specs.Values.{bound}
use Rattle.pt_tables_asking.specs.Asking.{Rests}
use Rattle.pt_tables_rows.specs.Schema.{desk_schema}
use Rattle.pt_tables_asking.proofs.CauseLemmas.{Blames, query_caused_inside}
use Rattle.pt_tables_asking.proofs.InsideLemmas.{rests_inside, shown_inside}
use Rattle.pt_tables_asking.proofs.asking.rows_shown.Goals as goal

pub returns-in_err-rows-clause-rests : goal.returns-in_err-rows-clause-rests
returns-in_err-rows-clause-rests g c =
    let same : c.drop-tx.new.self.0 ≡ c.conn-1.given.0 = search rules in
    subst (λ h. Rests (state g.S.Store c.args.conn.now) (state g.S.Store h)) same
    (rests_inside g.S.Store c.args.text.now (bound c.args.params.now) c.args.conn.now c.transaction-tx.result.conn.now c.query_all.new.self.conn.now c.drop-tx.new.self.0 c.transaction-tx.ensures.begun
    c.query_all.result c.query_all.ensures.ok c.query_all.ensures.err c.query_all.ensures.survives c.drop-tx.ensures.ended c.drop-tx.ensures.undone c.drop-tx.ensures.survives)

pub returns-in_err-rows-clause-caused : goal.returns-in_err-rows-clause-caused
returns-in_err-rows-clause-caused g c clean has served =
    let mid = state g.S.Store c.query_all.new.self.conn.now in
    let old = state g.S.Store c.args.conn.now in
    let e = c.in_err-rows.field-0.0 in
    let same : c.drop-tx.new.self.0 ≡ c.conn-1.given.0 = search rules in
    let last : HasCleanDisk (state g.S.Store c.drop-tx.new.self.0) = subst (λ h. HasCleanDisk (state g.S.Store h)) (sym same) clean in
    let early : HasCleanDisk mid = omega (arith, last, c.drop-tx.ensures.survives.clean) in
    let passed : c.from_residual.result ≡ Err e = search rules in
    subst (λ r. IfErr r (Blames old (state g.S.Store c.conn-1.given.0))) (sym passed) (subst (λ h. Blames old (state g.S.Store h) e) same
    (query_caused_inside g.S.Store c.args.text.now (bound c.args.params.now) desk_schema c.requires.plain c.requires.unlisted served c.args.conn.now c.transaction-tx.result.conn.now c.query_all.new.self.conn.now
    c.drop-tx.new.self.0 c.transaction-tx.ensures.begun has e (c.in_err-rows.ensures.err early) c.drop-tx.ensures.survives))

pub returns-clause-shown : goal.returns-clause-shown
returns-clause-shown g c clean =
    let mid = state g.S.Store c.query_all.new.self.conn.now in
    let same : c.rollback.new.self.0 ≡ c.conn-2-1.given.0 = search rules in
    let last : HasCleanDisk (state g.S.Store c.rollback.new.self.0) = subst (λ h. HasCleanDisk (state g.S.Store h)) (sym same) clean in
    let early : HasCleanDisk mid = omega (arith, last, c.rollback.ensures.survives.clean) in
    shown_inside g.S.Store c.args.text.now (bound c.args.params.now) c.args.conn.now c.transaction-tx.result.conn.now mid c.transaction-tx.ensures.begun c.requires.plain c.requires.unlisted
    c.in_ok-rows.rows.items (c.in_ok-rows.ensures.ok early)

pub returns-clause-rests : goal.returns-clause-rests
returns-clause-rests g c =
    let same : c.rollback.new.self.0 ≡ c.conn-2-1.given.0 = search rules in
    subst (λ h. Rests (state g.S.Store c.args.conn.now) (state g.S.Store h)) same
    (rests_inside g.S.Store c.args.text.now (bound c.args.params.now) c.args.conn.now c.transaction-tx.result.conn.now
    c.query_all.new.self.conn.now c.rollback.new.self.0 c.transaction-tx.ensures.begun
    c.query_all.result c.query_all.ensures.ok c.query_all.ensures.err c.query_all.ensures.survives c.rollback.ensures.ended c.rollback.ensures.undone c.rollback.ensures.survives)
