use Rattle.std.proofs.Common.{◌≡◌, ◌∷◌, ◌++◌, [], subst}
use Rattle.pt_base_values.specs.declared.trip.Trip.{Trip}
use Rattle.pt_desk_rules.specs.State.{trip_key}
use Rattle.pt_base_records.specs.Records.{edited, Edit}
use Rattle.pt_desk_store.specs.Enough.{AreTripsIn}
use Rattle.pt_desk_store.proofs.SomeLemmas.{goes_more, own_more, own_still, some_fault, some_memory}
use Rattle.pt_desk_store.proofs.manifests.gather_trips.Goals.{in-Some+in_ok-put, in_default}
use Rattle.pt_desk_store.proofs.manifests.gather_trips.Goals as goal

pub returns-in_err-trip : goal.returns-in_err-trip
returns-in_err-trip g c = record {
  reads =
      some_fault _ _ _ (tt {0}) (tt {0}) _ c.loop-stop.found _ c.in_err-trip.field-0.0 c.from_residual.result c.from_residual.ensures.1
      c.loop-stop.invariant.reads c.in_err-trip.ensures.reads.goes.1;
}

pub returns-in_err-put : goal.returns-in_err-put
returns-in_err-put g c = record {
  reads =
      some_memory _ _ (tt {0}) (tt {0}) c.loop-stop.found _ c.from_residual-in_err-put.result c.from_residual-in_err-put.ensures.1
      (goes_more _ _ _ (tt {0}) c.in_ok-trip.field-0 c.loop-stop.invariant.reads c.in_ok-trip.ensures.reads);
}

pub loop-stop-preserved : goal.loop-stop-preserved
loop-stop-preserved g c =
    let a = g.K.Keeper.store c.args.keeper.now in
    let b = g.K.Keeper.store c.loop-stop.keeper in
    let d = g.K.Keeper.store c.gather_other.new.keeper in
    let other = c.in_ok-trip.field-0 in
    let found = c.loop-stop.found in
    let more = c.match-branch-2.found in
    let first = c.loop-stop.invariant.reads in
    let next = c.in_ok-trip.ensures.reads in
    let own = c.loop-stop.invariant.own in
    record {
      reads = goes_more a b d (tt {0}) other first next;
      own = λ clean. elim c.match-branch-2.branch [
        | in-Some+in_ok-put w ↦
            let put = w.in_ok-put.ensures.value in
            let is = w.found-is in
            let now : more ≡ record { away = found.away; puts = found.puts ++ w.in-Some.trip ∷ [] } = cc in
            own_more a b d (tt {0}) other w.in-Some.trip found more first next w.in-Some.is now own clean
        | in_default w ↦
            let is = w.found-is in
            let same : found ≡ more = cc in
            subst (λ (e : Edit Trip). AreTripsIn a.content (edited trip_key e [])) same (own_still a b d (tt {0}) other (edited trip_key found []) first next own clean)
      ];
    }
