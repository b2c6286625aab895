use Rattle.std.proofs.Common.{List, arith, sym, ap, subst, ◌∙◌, ◌++◌, append-nil}
use Rattle.std.specs.Prelude.{◌==◌}
use Rattle.std.proofs.lemmas.List.{drop_all}
use Rattle.pt_base_records.proofs.TableLemmas.{IsInOrder-filter}
use Rattle.pt_base_records.specs.Records.{IsInOrder}
use Rattle.pt_desk_scheduling.specs.Plan.{Plan, plan_key}
use Rattle.pt_desk_rules.specs.Planned.{planned_on}
use Rattle.pt_desk_store.proofs.answers.planned_on.Goals as goal

pub of-requires : goal.of-requires
of-requires c =
    let all = c.args.plans.now in
    record {
      order =
          subst (λ (xs : List Plan). IsInOrder plan_key xs)
          (sym (sym (append-nil _) ∙ sym (ap (λ (rest : List Plan). c.loop-plan.found.items ++ planned_on c.args.day
          rest) (drop_all c.loop-plan.plan-index all (omega arith))) ∙ c.loop-plan.invariant))
          (IsInOrder-filter plan_key (λ plan. plan.day == c.args.day) all c.requires.order);
    }
