use Rattle.std.proofs.Common.{◌≡◌, true, refl}
use Rattle.pt_desk_rules.specs.Permission.{is_dispatcher}
use Rattle.pt_desk_reads.proofs.tours.tell_day_sheet.Goals as goal

pub returns : goal.returns
returns c = λ now.
    let holds : is_dispatcher c.args.me.now.role ≡ true = cc (c.is_dispatcher.ensures.value, c.if-not-is_dispatcher.false) in
    rw holds (c.in_ok-day_sheet_of.field-0, c.in_ok-day_sheet_of.ensures, refl)
