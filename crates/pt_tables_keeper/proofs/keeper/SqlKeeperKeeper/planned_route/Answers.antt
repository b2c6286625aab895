use Rattle.std.proofs.Common.{◌≡◌, ap, subst, sym, ◌∙◌, arith, rules}
use Rattle.sqlite.specs.Held.{state}
use Rattle.pt_desk_rules.specs.State.{State, plan_of}
use Rattle.pt_base_records.specs.Keys.{pair_key}
use Rattle.pt_base_records.specs.Records.{Each, record_at}
use Rattle.pt_desk_scheduling.specs.Plan.{plan_key}
use Rattle.pt_tables_asking.specs.Content.{Tells}
use Rattle.pt_tables_asking.specs.Plans.{HasFewStops}
use Rattle.pt_tables_keeper.proofs.ReadLemmas.{caused_so, reads_by, step_by}
use Rattle.pt_tables_keeper.specs.Keeper.{KeptTables}
use Rattle.pt_tables_keeper.proofs.keeper.SqlKeeperKeeper.planned_route.Goals as goal

pub invariant_of-self : goal.invariant_of-self
invariant_of-self g c =
    let none : c.self.inside.failures ≡ 0 = ap (λ (k : KeptTables _). k.failures) c.self.view_is ∙ c.in_ok-serve.ensures.served in
    step_by g.S.Store c.self.inside.conn c.plan_by_key-found.new.conn c.self.inside.failures c.count.new.failures c.self.inside.known.content c.plan_by_key-found.result c.count.result
    none c.self.invariant c.plan_by_key-found.ensures.rests (λ db here left. g.met.S.Store.settled c.plan_by_key-found.new.conn.store db here left) c.count.ensures.counts

pub returns : goal.returns
returns g c =
    let none : c.self.inside.failures ≡ 0 = ap (λ (k : KeptTables _). k.failures) c.self.view_is ∙ c.in_ok-serve.ensures.served in
    let key : c.pair-key.result ≡ pair_key c.args.vehicle c.args.day = search rules in
    record {
      reads = reads_by g.S.Store c.self.inside.conn c.plan_by_key-found.new.conn c.self.inside.failures c.count.new.failures c.self.inside.known.content c.plan_by_key-found.result c.count.result
          none c.self.invariant c.plan_by_key-found.ensures.rests (λ db here left. g.met.S.Store.settled c.plan_by_key-found.new.conn.store db here left) c.count.ensures.counts
          c.args.self.now (plan_of c.args.vehicle c.args.day) c.self.view_is
          (subst (λ k. Tells (state g.S.Store c.self.inside.conn) (state g.S.Store c.plan_by_key-found.new.conn)
          (λ (s : State). record_at plan_key k s.planned) c.plan_by_key-found.result) key
          c.plan_by_key-found.ensures.told);
      refuses = λ some. absurd (let zero : c.args.self.now.failures ≡ 0 = c.in_ok-serve.ensures.served in omega arith);
      caused = λ few. caused_so g.S.Store c.self.inside.conn c.plan_by_key-found.new.conn c.self.inside.failures c.count.new.failures c.self.inside.known.content c.plan_by_key-found.result c.count.result
          none c.self.invariant c.plan_by_key-found.ensures.rests (λ db here left. g.met.S.Store.settled c.plan_by_key-found.new.conn.store db here left) c.count.ensures.counts
          c.args.self.now c.self.view_is
          (λ clean held. c.plan_by_key-found.ensures.excused clean c.self.inside.known.content c.self.invariant.readable
          (subst (λ (k : KeptTables _). Each HasFewStops k.content.planned) (sym c.self.view_is) few) held);
    }
