use Rattle.std.proofs.Common.{refl}
use Rattle.pt_desk_rules.proofs.booking.confirm.Goals as goal

pub returns : goal.returns
returns c = (c.confirmation_of.result, c.confirmation_of.ensures, refl)
