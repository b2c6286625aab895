use Rattle.std.proofs.Common.{ap, ◌∙◌, sym}
use Rattle.pt_desk_booking.specs.Planning.{on_duty}
use Rattle.pt_app_commands.proofs.RefusalLemmas.{log_is_printed, none_can, nowhere, some_can}
use Rattle.pt_app_commands.proofs.refusals.print_refusal.Goals as goal
use Rattle.pt_travel.specs.Times.{time_in}

pub returns-then-is_some : goal.returns-then-is_some
returns-then-is_some g c = (
  some_can c.args.found.now (time_in c.times-times.result.now) c.as_slice-lent.result.now c.asked-asked.result.now c.best.result
      c.times-times.ensures.least (ap on_duty c.as_slice-lent.ensures.value ∙ c.in_ok-duties.ensures.vehicles)
      c.asked-asked.ensures.value (sym c.is_some.ensures ∙ c.if-is_some.true) c.best.ensures.possible,
  c.in_ok-print.ensures.written,
)

pub explain-requires-clause-nowhere : goal.explain-requires-clause-nowhere
explain-requires-clause-nowhere g c =
    nowhere (time_in c.times-times.result.now) c.as_slice-lent.result.now c.asked-asked.result.now c.best.result
    (sym c.is_some.ensures ∙ c.if-is_some.false) c.best.ensures.none

pub returns-in-Ok : goal.returns-in-Ok
returns-in-Ok g c =
    let minutes = time_in c.times-times.result.now in
    let duties = c.as_slice-lent.result.now in
    let same = ap on_duty c.as_slice-lent.ensures.value ∙ c.in_ok-duties.ensures.vehicles in
    let never = nowhere minutes duties c.asked-asked.result.now c.best.result (sym c.is_some.ensures ∙ c.if-is_some.false)
    c.best.ensures.none in (
      none_can c.args.found.now minutes duties c.asked-asked.result.now c.times-times.ensures.least same c.asked-asked.ensures.value
          never,
      (
        minutes,
        c.times-times.ensures.least,
        duties,
        same,
        log_is_printed minutes duties c.asked-asked.result.now c.args.found.now.asked _ _ _ _ _ c.asked-asked.ensures.value
            c.new-log.ensures.items c.in-Ok.ensures.log c.as_slice.ensures.value c.in_ok-print-in-Ok.ensures.written,
      ),
    )
