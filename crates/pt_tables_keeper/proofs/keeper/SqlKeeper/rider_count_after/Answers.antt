use Rattle.std.proofs.Common.{◌≡◌, ◌∷◌, [], Err, None, length, min, ◌+◌, sym, ap, subst, ◌∙◌, rules}
use Rattle.std.specs.List.{slice_get}
use Rattle.pt_desk_store.specs.Store.{Goes}
use Rattle.pt_desk_rules.specs.State.{State, applied, rider_of}
use Rattle.pt_tables_keeper.proofs.ReadLemmas.{counted_now, goes_not, goes_to, readable_now, serves_still}
use Rattle.pt_tables_keeper.proofs.RiderLemmas.{only_one, riders_one_more, riders_still}
use Rattle.pt_tables_keeper.specs.Keeper.{store_of}
use Rattle.pt_tables_keeper.proofs.keeper.SqlKeeper.rider_count_after.Goals as goal
use Rattle.pt_tables_keeper.proofs.keeper.SqlKeeper.rider_count_after.Goals.{in-Some-2, in-None}

pub returns-in_err-read_rider : goal.returns-in_err-read_rider
returns-in_err-read_rider g c =
    let old = store_of g.S.Store c.args.self.now in
    let new = store_of g.S.Store c.read_rider.new.self in
    let riders = length (applied c.args.change.now c.args.self.now.content).riders in
    let e = c.in_err-read_rider.field-0.0 in
    let passed : c.from_residual.result ≡ Err e = search rules in
    record {
      reads = subst (λ r. Goes old new riders None r) (sym passed)
          (goes_not old new (rider_of c.in-Some.new.now.id c.args.self.now.content) riders None e c.in_err-read_rider.ensures.reads);
      content = c.in_err-read_rider.ensures.content;
      unfit = c.in_err-read_rider.ensures.unfit;
    }

pub returns : goal.returns
returns g c =
    let old = store_of g.S.Store c.args.self.now in
    let after = c.read_rider.new.self in
    let new = store_of g.S.Store after in
    let change = c.args.change.now in
    let put = c.in-Some.new.now in
    let is : change.riders.puts ≡ put ∷ [] = only_one change.riders.puts put c.requires.writable.one_rider (c.in-Some.ensures.value ∙ ap (λ l. slice_get l 0) c.puts.ensures.value) in
    let riders = λ (s : State). length (applied change s).riders in
    let read = c.in_ok-read_rider.ensures.reads in
    let none = serves_still old new (rider_of put.id c.args.self.now.content) c.in_ok-read_rider.field-0 read c.requires.serves in
    let conn = c.self-2.inside.conn in
    let content = c.self-2.inside.known.content in
    let readable = readable_now g.S.Store conn c.self-2.inside.failures content after c.self-2.view_is c.self-2.invariant in
    let counted = counted_now g.S.Store conn c.self-2.inside.failures content after c.self-2.view_is c.self-2.invariant none in
    elim c.match-branch-2.branch [
      | in-Some-2 w ↦ record {
        reads = subst (λ r. Goes old new (riders c.args.self.now.content) None r) (sym w.result-is)
            (goes_to old new (rider_of put.id) c.in_ok-read_rider.field-0 riders c.self-2.inside.rider_count read (λ clean same.
            counted clean ∙ riders_still change after.content put readable c.requires.writable.riders is w.in-Some-2.field-0 (sym w.in-Some-2.is ∙ same)));
        content = c.in_ok-read_rider.ensures.content;
        unfit = c.in_ok-read_rider.ensures.unfit;
      }
      | in-None w ↦ record {
        reads = subst (λ r. Goes old new (riders c.args.self.now.content) None r) (sym w.result-is)
            (goes_to old new (rider_of put.id) c.in_ok-read_rider.field-0 riders w.saturating_add.result read (λ clean same.
            w.saturating_add.ensures ∙ ap (λ n. min (n + 1) 18446744073709551615) (counted clean)
            ∙ riders_one_more change after.content put readable c.requires.writable.riders is
            (sym w.in-None.is ∙ same)));
        content = c.in_ok-read_rider.ensures.content;
        unfit = c.in_ok-read_rider.ensures.unfit;
      }
    ]
