use Rattle.std.proofs.Common.{◌≡◌, ◌++◌, None, Ok, [], drop}
use Rattle.pt_desk_store.specs.Store.{Goes}
use Rattle.pt_desk_store.specs.Wished.{plans_found}
use Rattle.pt_desk_store.proofs.wished.gather_found.Given as goal

abbrev pub invariant-loop-vehicle : goal.invariant-loop-vehicle
invariant-loop-vehicle g l =
    let store = g.K.Keeper.store in
    let planned = (store l.fn.keeper).content.planned in
    record {
      reads : Goes (store l.fn.keeper) (store l.keeper) (tt {0}) None (Ok (tt {0}));
      away : l.found.away ≡ [];
      found : (store l.keeper).doubt ≡ 0
          → l.found.puts ++ plans_found l.fn.day planned (drop l.vehicle-index l.fn.vehicles) ≡ plans_found l.fn.day planned l.fn.vehicles;
    }
