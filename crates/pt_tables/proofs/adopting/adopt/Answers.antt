use Rattle.std.proofs.Common.{inl, inr, refl, subst, subst₂, sym, arith}
use Rattle.sqlite.specs.Held.{Held, state}
use Rattle.sqlite.specs.State.{HasCleanDisk}
use Rattle.sqlite.specs.Tree.{Trees}
use Rattle.pt_tables_keeper.specs.Sound.{IsSound}
use Rattle.pt_tables_keeper.specs.State.{State}
use Rattle.pt_tables_rows.specs.Tables.{HasRows}
use Rattle.pt_tables.proofs.AdoptLemmas.{adopted, desk_adopted, failed_then, given_caused, given_refusal, given_why, is_in_transaction, left_before, read_committed, refused_otherwise, still_committed}
use Rattle.pt_tables_keeper.proofs.CarriedLemmas.{sound_carried}
use Rattle.pt_tables_rows.proofs.SameRows.{sound-well_formed}
use Rattle.pt_tables.proofs.adopting.adopt.Goals as goal

-- ---- a store that was opened

pub keeper_of-requires : goal.keeper_of-requires
keeper_of-requires g c =
    let old = state g.S.Store c.args.conn in
    let new = state g.S.Store c.content_in.new.conn in
    let last = state g.S.Store c.in-Ok-reopen.conn in
    let falls = c.in-Ok-reopen.ensures.clean in
    record {
      settled = c.in-Ok-reopen.ensures.settled;
      readable = sound-well_formed c.in-Ok.lists.content c.in-Ok.ensures.sound;
      carried = sound_carried c.in-Ok.lists.content c.in-Ok.ensures.sound;
      kept = λ clean.
          let early : HasCleanDisk new = omega (arith, clean, falls) in
          adopted old new last (c.is_autocommit.ensures.settled c.if-not-is_autocommit.false) c.content_in.ensures.live c.content_in.ensures.stays falls c.in-Ok-reopen.ensures.was_open
          c.in-Ok-reopen.ensures.opened clean c.in-Ok.lists.content c.in-Ok.ensures.schema (c.in-Ok.ensures.rows early);
      leaves = λ clean db left.
          let early : HasCleanDisk new = omega (arith, clean, falls) in
          let content = c.in-Ok.lists.content in (
            content,
            desk_adopted old new last (c.is_autocommit.ensures.settled c.if-not-is_autocommit.false) c.content_in.ensures.live c.content_in.ensures.stays falls
                c.in-Ok-reopen.ensures.was_open c.in-Ok-reopen.ensures.opened clean content (sound-well_formed content c.in-Ok.ensures.sound) c.in-Ok.ensures.schema (c.in-Ok.ensures.rows early)
                db (g.met.S.Store.settled c.in-Ok-reopen.conn.store db (c.in-Ok-reopen.ensures.opened clean).is_open left),
          );
    }

pub returns-in-Ok-reopen-clause-sound : goal.returns-in-Ok-reopen-clause-sound
returns-in-Ok-reopen-clause-sound g c = subst IsSound (sym c.keeper_of.ensures.content) c.in-Ok.ensures.sound

pub returns-in-Ok-reopen-clause-rows : goal.returns-in-Ok-reopen-clause-rows
returns-in-Ok-reopen-clause-rows g c =
    let old = state g.S.Store c.args.conn in
    let new = state g.S.Store c.content_in.new.conn in
    let last = state g.S.Store c.in-Ok-reopen.conn in
    let falls = c.in-Ok-reopen.ensures.clean in
    subst₂ (λ (h : Held _) (s : State). HasCleanDisk (state g.S.Store h) → HasRows s old.committed.trees) (sym c.keeper_of.ensures.conn) (sym c.keeper_of.ensures.content)
    (λ clean.
    let early : HasCleanDisk new = omega (arith, clean, falls) in
    read_committed old new last (c.is_autocommit.ensures.settled c.if-not-is_autocommit.false) c.content_in.ensures.live c.content_in.ensures.stays falls c.in-Ok-reopen.ensures.was_open
    c.in-Ok-reopen.ensures.opened clean (HasRows c.in-Ok.lists.content) (c.in-Ok.ensures.rows early))

pub returns-in-Ok-reopen-clause-crash : goal.returns-in-Ok-reopen-clause-crash
returns-in-Ok-reopen-clause-crash g c =
    let old = state g.S.Store c.args.conn in
    let new = state g.S.Store c.content_in.new.conn in
    let falls = c.in-Ok-reopen.ensures.clean in
    subst (λ (h : Held _). HasCleanDisk (state g.S.Store h) → (trees : Trees) → (state g.S.Store h).may_leave trees → old.may_leave trees) (sym c.keeper_of.ensures.conn)
    (λ clean db left.
    let early : HasCleanDisk new = omega (arith, clean, falls) in
    left_before old new c.content_in.ensures.survives early db (c.in-Ok-reopen.ensures.crash clean db left))

-- ---- tables that are refused

pub returns-in-Err-clause-faults : goal.returns-in-Err-clause-faults
returns-in-Err-clause-faults g c =
    let given = c.give_back.result in
    given_refusal (state g.S.Store c.content_in.new.conn) (g.S.Store.view given.0) (g.S.Store.faults given.0) c.in-Err.refused given.1 c.in-Err.ensures.faults c.give_back.ensures.told

pub returns-in-Err-clause-refused : goal.returns-in-Err-clause-refused
returns-in-Err-clause-refused g c clean =
    let old = state g.S.Store c.args.conn in
    let new = state g.S.Store c.content_in.new.conn in
    let given = c.give_back.result in
    let early : HasCleanDisk new = omega (arith, clean, c.give_back.ensures.clean) in
    given_why old new (c.is_autocommit.ensures.settled c.if-not-is_autocommit.false) c.content_in.ensures.live (c.content_in.ensures.stays early) (g.S.Store.view given.0)
    (g.S.Store.faults given.0) c.in-Err.refused given.1 (c.give_back.ensures.was_open clean) (c.give_back.ensures.kept clean) (g.S.Store.recovers given.0)
    (λ db left. left_before old new c.content_in.ensures.survives early db (c.give_back.ensures.crash clean db left)) (c.in-Err.ensures.why early) (c.in-Err.ensures.version early) clean
    c.give_back.ensures.told

pub returns-in-Err-clause-caused : goal.returns-in-Err-clause-caused
returns-in-Err-clause-caused g c store clean =
    let old = state g.S.Store c.args.conn in
    let new = state g.S.Store c.content_in.new.conn in
    let given = c.give_back.result in
    let early : HasCleanDisk new = omega (arith, clean, c.give_back.ensures.clean) in
    given_caused old new (g.S.Store.view given.0) (g.S.Store.faults given.0) c.in-Err.refused given.1 c.content_in.ensures.survives early c.give_back.ensures.counts
    (c.in-Err.ensures.caused early) c.give_back.ensures.told store clean

-- ---- a store that could not be opened again

pub returns-in-Err-reopen-clause-refused : goal.returns-in-Err-reopen-clause-refused
returns-in-Err-reopen-clause-refused g c clean =
    let old = state g.S.Store c.args.conn in
    let new = state g.S.Store c.content_in.new.conn in
    let refusal = c.in-Err-reopen.refusal in
    let early : HasCleanDisk new = omega (arith, clean, c.in-Err-reopen.ensures.clean) in
    refused_otherwise old (g.S.Store.view refusal.0) (g.S.Store.recovers refusal.0) refusal.1 c.in-Err-reopen.ensures.faults
    (λ here. still_committed old new (g.S.Store.view refusal.0).trees (c.content_in.ensures.stays early) (c.in-Err-reopen.ensures.was_open clean here)
    (c.in-Err-reopen.ensures.kept clean here))
    (λ db left. left_before old new c.content_in.ensures.survives early db (c.in-Err-reopen.ensures.crash clean db left))

pub returns-in-Err-reopen-clause-caused : goal.returns-in-Err-reopen-clause-caused
returns-in-Err-reopen-clause-caused g c store clean =
    let old = state g.S.Store c.args.conn in
    let new = state g.S.Store c.content_in.new.conn in
    let early : HasCleanDisk new = omega (arith, clean, c.in-Err-reopen.ensures.clean) in
    inr (inl (failed_then old new (g.S.Store.faults c.in-Err-reopen.refusal.0) (λ _. ⊥) c.content_in.ensures.survives early c.in-Err-reopen.ensures.counts
    (c.in-Err-reopen.ensures.caused store clean) old.is_open refl))

-- ---- a transaction is open

pub returns-then-not-is_autocommit-clause-refused : goal.returns-then-not-is_autocommit-clause-refused
returns-then-not-is_autocommit-clause-refused g c clean =
    refused_otherwise (state g.S.Store c.args.conn) (g.S.Store.view c.into_store.result) (g.S.Store.recovers c.into_store.result) _ (inr refl)
    (λ here. (c.into_store.ensures.undone.undone here).0) (λ db left. c.into_store.ensures.quiet.outcomes db left)

pub returns-then-not-is_autocommit-clause-caused : goal.returns-then-not-is_autocommit-clause-caused
returns-then-not-is_autocommit-clause-caused g c store clean =
    inl (is_in_transaction (state g.S.Store c.args.conn).in_transaction c.is_autocommit.result c.is_autocommit.ensures.value c.if-not-is_autocommit.true)
