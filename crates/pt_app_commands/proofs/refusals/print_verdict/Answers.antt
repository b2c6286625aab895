use Rattle.std.proofs.Common.{ap, subst, ◌∙◌}
use Rattle.pt_desk_booking.specs.Planning.{on_duty}
use Rattle.pt_app_commands.proofs.RefusalLemmas.{none_can}
use Rattle.pt_app_commands.proofs.refusals.print_verdict.Goals as goal
use Rattle.pt_audit.specs.RightLog.{IsRightLog}
use Rattle.pt_insertion_search.specs.declared.asked.Asked.{Asked}
use Rattle.pt_travel.specs.Times.{time_in}

pub returns-then-check : goal.returns-then-check
returns-then-check g c =
    let minutes = time_in c.times.result.now in
    let duties = c.as_slice.result.now in
    let same = ap on_duty c.as_slice.ensures.value ∙ c.in_ok-duties.ensures.vehicles in (
      none_can c.args.found.now minutes duties c.asked.result.now c.times.ensures.least same c.asked.ensures.value
          (c.check.ensures.refused c.if-check.true),
      (
        minutes,
        c.times.ensures.least,
        duties,
        same,
        subst (λ (a : Asked). IsRightLog minutes duties a c.args.log.now.lines.items) c.asked.ensures.value
            (c.check.ensures.right.0 c.if-check.true),
      ),
      c.in_ok-print.ensures.written,
    )
