use Rattle.std.proofs.Common.{inr}
use Rattle.pt_app_files.proofs.making.make_desk_in.Goals as goal

pub returns-in-Ok : goal.returns-in-Ok
returns-in-Ok g c = inr (c.in-Ok.conn, c.connect.new.self, c.in-Ok.ensures, c.make_desk.ensures)
