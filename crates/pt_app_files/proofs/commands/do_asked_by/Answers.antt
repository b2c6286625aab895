use Rattle.std.proofs.Common.{refl, subst}
use Rattle.pt_app_files.specs.Commands.{AsksIts}
use Rattle.pt_app_files.proofs.CommandLemmas.{obeys}
use Rattle.pt_app_files.proofs.commands.do_asked_by.Goals as goal

pub returns-in-Rehearse : goal.returns-in-Rehearse
returns-in-Rehearse g c = obeys c.in-Rehearse.is (c.rehearse.ensures, refl, refl)

pub returns-in-Init : goal.returns-in-Init
returns-in-Init g c = obeys c.in-Init.is (c.init.ensures, refl, refl)

pub returns-in-Migrate : goal.returns-in-Migrate
returns-in-Migrate g c = obeys c.in-Migrate.is (c.migrate_file.ensures, refl)

pub returns-in-Serve : goal.returns-in-Serve
returns-in-Serve g c = obeys c.in-Serve.is (c.serve_file.ensures, refl)

pub returns-in-Travel : goal.returns-in-Travel
returns-in-Travel g c =
    let its = subst (AsksIts _ _ _ _) c.in-Travel.is c.ask.ensures in
    obeys c.in-Travel.is (record { task = its.task; is = its.is; asks = (its.asks, refl) })

pub returns-in-Manifest : goal.returns-in-Manifest
returns-in-Manifest g c =
    let its = subst (AsksIts _ _ _ _) c.in-Manifest.is c.ask-in-Manifest.ensures in
    obeys c.in-Manifest.is (record { task = its.task; is = its.is; asks = (its.asks, refl) })

pub returns-in-Trips : goal.returns-in-Trips
returns-in-Trips g c =
    let its = subst (AsksIts _ _ _ _) c.in-Trips.is c.ask-in-Trips.ensures in
    obeys c.in-Trips.is (record { task = its.task; is = its.is; asks = (its.asks, refl) })

pub returns-in-Explain : goal.returns-in-Explain
returns-in-Explain g c =
    let its = subst (AsksIts _ _ _ _) c.in-Explain.is c.ask-in-Explain.ensures in
    obeys c.in-Explain.is (record { task = its.task; is = its.is; asks = (its.asks, refl) })

pub returns-in-Audit : goal.returns-in-Audit
returns-in-Audit g c =
    let its = subst (AsksIts _ _ _ _) c.in-Audit.is c.ask-in-Audit.ensures in
    obeys c.in-Audit.is (record { task = its.task; is = its.is; asks = (its.asks, refl) })
