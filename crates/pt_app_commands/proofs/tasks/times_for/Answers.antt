use Rattle.std.proofs.Common.{ap, subst}
use Rattle.pt_desk.specs.Places.{numbers_in}
use Rattle.pt_app_commands.specs.Tasks.{IsTimesRead}
use Rattle.pt_app_commands.proofs.TaskLemmas.{times_read, times_read_by}
use Rattle.pt_app_commands.proofs.tasks.times_for.Goals as goal

pub returns-in-Ok : goal.returns-in-Ok
returns-in-Ok g c = record {
  read = (
    numbers_in c.place_ids.result,
    c.place_ids.ensures.reads,
    times_read_by _ _ _ _ (ap numbers_in c.in-Ok.is)
        (subst (λ ids. IsTimesRead c.args.text.now ids c.read.result) c.as_slice.ensures.value
        (times_read _ _ _ c.read.ensures.reads c.read.ensures.faulty)),
  );
}
