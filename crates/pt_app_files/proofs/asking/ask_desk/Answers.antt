use Rattle.std.proofs.Common.{inl}
use Rattle.pt_app_files.proofs.asking.ask_desk.Goals as goal

pub returns-in-Ok : goal.returns-in-Ok
returns-in-Ok g c = inl (
  c.in-Ok.keeper,
  record {
    sound = c.in-Ok.ensures.sound;
    rows = c.in-Ok.ensures.rows;
    serves = c.in-Ok.ensures.serves;
    crash = c.in-Ok.ensures.crash;
  },
  c.do_and_leave.ensures,
)
