use Rattle.std.proofs.Common.{◌≡◌, None, Ok, []}
use Rattle.pt_desk_rules.specs.State.{trip_key}
use Rattle.pt_base_records.specs.Records.{edited}
use Rattle.pt_desk_store.specs.Enough.{AreTripsIn}
use Rattle.pt_desk_store.specs.Store.{Goes}
use Rattle.pt_desk_store.proofs.manifests.gather_trips.Given as goal

abbrev pub invariant-loop-stop : goal.invariant-loop-stop
invariant-loop-stop g l =
    let store = g.K.Keeper.store in
    record {
      reads : Goes (store l.fn.keeper) (store l.keeper) (tt {0}) None (Ok (tt {0}));
      own : (store l.keeper).doubt ≡ 0 → AreTripsIn (store l.fn.keeper).content (edited trip_key l.found []);
    }
