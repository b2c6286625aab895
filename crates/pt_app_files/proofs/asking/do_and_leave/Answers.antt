use Rattle.std.proofs.Common.{subst, subst₂}
use Rattle.pt_app_commands.specs.Tasks.{DoesTask}
use Rattle.pt_tables_keeper.specs.Keeper.{store_of}
use Rattle.pt_app_files.proofs.asking.do_and_leave.Goals as goal

pub returns : goal.returns
returns g c =
    let done = c.do_task-ended in
    record {
      last = done.new.keeper;
      does = subst₂ (λ key text. DoesTask (store_of g.S.Store) key c.args.now c.args.task.now text c.args.keeper
          done.new.keeper (g.W.Write.contents c.args.out.now) (g.W.Write.contents done.new.out) done.result)
          c.as_bytes.ensures.value c.as_slice.ensures.value done.ensures.done;
      left = subst (λ conn. g.F.DeskFiles.leaves c.args.files.now conn c.leave.new.self) c.release.ensures.same
          c.leave.ensures;
    }
