use Rattle.std.proofs.Common.{is_some, inl, inr, refl, ap, arith}
use Rattle.sqlite.specs.Held.{state}
use Rattle.sqlite.specs.State.{HasCleanDisk}
use Rattle.pt_tables.proofs.AdoptLemmas.{is_in_transaction}
use Rattle.pt_tables.proofs.MigrationLemmas.{is_migrated, survive_read}
use Rattle.pt_tables_opening.proofs.BlameLemmas.{not_for_tables}
use Rattle.pt_tables.proofs.migration.migrate.Goals as goal

pub returns-in_default-clause-other_tables : goal.returns-in_default-clause-other_tables
returns-in_default-clause-other_tables g c clean code version is =
    c.in_default.not-Some version ((c.in_ok-version.ensures.value clean version).1 is)

pub raise-requires-clause-earlier : goal.raise-requires-clause-earlier
raise-requires-clause-earlier g c = c.in_ok-version.ensures.earlier c.in-Some.version c.in-Some.is

pub returns-in-Ok-clause-migrated : goal.returns-in-Ok-clause-migrated
returns-in-Ok-clause-migrated g c clean =
    let old = state g.S.Store c.args.conn.now in
    let mid = state g.S.Store c.earlier_version_of.new.conn in
    let new = state g.S.Store c.raise.new.conn in
    let early : HasCleanDisk mid = omega (arith, clean, c.raise.ensures.survives.clean) in
    let same = c.in_ok-version.ensures.same early (ap is_some c.in-Some.is) in
    is_migrated c.in-Some.version old mid new same.0.now_is ((c.in_ok-version.ensures.value early c.in-Some.version).0 c.in-Some.is) (c.in-Ok.ensures.raised clean)

pub returns-in-Ok-clause-crash : goal.returns-in-Ok-clause-crash
returns-in-Ok-clause-crash g c =
    survive_read c.in-Some.version (state g.S.Store c.args.conn.now) (state g.S.Store c.earlier_version_of.new.conn) (state g.S.Store c.raise.new.conn)
    (λ early. (c.in_ok-version.ensures.same early (ap is_some c.in-Some.is)).0.now_is)
    (λ early. (c.in_ok-version.ensures.value early c.in-Some.version).0 c.in-Some.is)
    c.earlier_version_of.ensures.survives c.raise.ensures.survives

pub returns-in-Err-clause-crash : goal.returns-in-Err-clause-crash
returns-in-Err-clause-crash g c =
    survive_read c.in-Some.version (state g.S.Store c.args.conn.now) (state g.S.Store c.earlier_version_of.new.conn) (state g.S.Store c.raise.new.conn)
    (λ early. (c.in_ok-version.ensures.same early (ap is_some c.in-Some.is)).0.now_is)
    (λ early. (c.in_ok-version.ensures.value early c.in-Some.version).0 c.in-Some.is)
    c.earlier_version_of.ensures.survives c.raise.ensures.survives

-- the tables are of an earlier version, and writes began
pub returns-in-Err-clause-caused : goal.returns-in-Err-clause-caused
returns-in-Err-clause-caused g c clean store =
    let early : HasCleanDisk (state g.S.Store c.earlier_version_of.new.conn) = omega (arith, clean, c.raise.ensures.survives.clean) in
    inr (inr (c.in-Some.version, (c.in_ok-version.ensures.value early c.in-Some.version).0 c.in-Some.is))

pub returns-in_default-clause-caused : goal.returns-in_default-clause-caused
returns-in_default-clause-caused g c clean store = absurd (not_for_tables _ refl store)

pub returns-then-not-is_autocommit-clause-caused : goal.returns-then-not-is_autocommit-clause-caused
returns-then-not-is_autocommit-clause-caused g c clean store =
    inl (is_in_transaction (state g.S.Store c.args.conn.now).in_transaction c.is_autocommit.result c.is_autocommit.ensures.value c.if-not-is_autocommit.true)
