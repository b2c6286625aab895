use Rattle.std.proofs.Common.{◌≡◌, ap, sym, subst, ◌∙◌, arith, rules}
use Rattle.pt_desk_rules.specs.Planned.{planned_on}
use Rattle.pt_desk_rules.specs.State.{State}
use Rattle.pt_base_records.specs.Records.{Each}
use Rattle.pt_tables_asking.specs.Plans.{HasFewStops, HasVersionAmong}
use Rattle.pt_tables_keeper.proofs.ReadLemmas.{caused_so, reads_so, step_by}
use Rattle.pt_tables_keeper.specs.Keeper.{KeptTables}
use Rattle.pt_tables_keeper.proofs.keeper.SqlKeeperKeeper.planned_on.Goals as goal

pub plans_by_day-found-requires-clause-committed : goal.plans_by_day-found-requires-clause-committed
plans_by_day-found-requires-clause-committed g c clean here =
    let none : c.self.inside.failures ≡ 0 = ap (λ (k : KeptTables _). k.failures) c.self.view_is ∙ c.in_ok-serve.ensures.served in
    sym ((c.self.invariant.kept none clean).committed here)

pub invariant_of-self : goal.invariant_of-self
invariant_of-self g c =
    let none : c.self.inside.failures ≡ 0 = ap (λ (k : KeptTables _). k.failures) c.self.view_is ∙ c.in_ok-serve.ensures.served in
    step_by g.S.Store c.self.inside.conn c.plans_by_day-found.new.conn c.self.inside.failures c.count.new.failures c.self.inside.known.content c.plans_by_day-found.result c.count.result
    none c.self.invariant c.plans_by_day-found.ensures.rests (λ db here left. g.met.S.Store.settled c.plans_by_day-found.new.conn.store db here left) c.count.ensures.counts

pub returns : goal.returns
returns g c =
    let none : c.self.inside.failures ≡ 0 = ap (λ (k : KeptTables _). k.failures) c.self.view_is ∙ c.in_ok-serve.ensures.served in
    let content = c.self.inside.known.content in
    let same : content.vehicles ≡ c.as_slice.result.now = search rules in
    let carried = subst (λ vs. Each (HasVersionAmong vs) content.planned) same c.self.invariant.carried in
    record {
      reads = reads_so g.S.Store c.self.inside.conn c.plans_by_day-found.new.conn c.self.inside.failures c.count.new.failures content c.plans_by_day-found.result c.count.result
          none c.self.invariant c.plans_by_day-found.ensures.rests (λ db here left. g.met.S.Store.settled c.plans_by_day-found.new.conn.store db here left) c.count.ensures.counts
          c.args.self.now (λ (s : State). planned_on c.args.day s.planned) c.self.view_is
          (λ clean held. c.plans_by_day-found.ensures.told clean content c.self.invariant.readable same carried held);
      refuses = λ some. absurd (let zero : c.args.self.now.failures ≡ 0 = c.in_ok-serve.ensures.served in omega arith);
      caused = λ few. caused_so g.S.Store c.self.inside.conn c.plans_by_day-found.new.conn c.self.inside.failures c.count.new.failures content c.plans_by_day-found.result c.count.result
          none c.self.invariant c.plans_by_day-found.ensures.rests (λ db here left. g.met.S.Store.settled c.plans_by_day-found.new.conn.store db here left) c.count.ensures.counts
          c.args.self.now c.self.view_is
          (λ clean held. c.plans_by_day-found.ensures.excused clean content c.self.invariant.readable same carried
          (subst (λ (k : KeptTables _). Each HasFewStops k.content.planned) (sym c.self.view_is) few) held);
    }
