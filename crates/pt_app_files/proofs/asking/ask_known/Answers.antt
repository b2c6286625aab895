use Rattle.std.proofs.Common.{inl}
use Rattle.pt_app_files.proofs.asking.ask_known.Goals as goal

pub returns-in-Ok : goal.returns-in-Ok
returns-in-Ok g c = inl (c.in-Ok.conn, c.open_known.new.files, c.in-Ok.ensures, c.ask_desk.ensures)
