use Rattle.std.proofs.Common.{subst}
use Rattle.pt_app_files.proofs.serving.serve_and_leave.Goals as goal

pub returns : goal.returns
returns g c = record {
  last = c.serve_on-ended.new.keeper;
  does = c.serve_on-ended.ensures;
  left = subst (λ conn. g.F.DeskFiles.leaves c.args.files.now conn c.leave.new.self) c.release.ensures.same
      c.leave.ensures;
}
