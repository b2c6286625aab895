use Rattle.std.proofs.Common.{refl}
use Rattle.clap.specs.Words.{found_of, rows_of}
use Rattle.pt_app_command_line.proofs.LineLemmas.{audit_rider, audit_wish}
use Rattle.pt_app_command_line.proofs.asked.audit_line.Goals as goal

pub returns-in_err-rider-clause-none : goal.returns-in_err-rider-clause-none
returns-in_err-rider-clause-none c = λ none asked asks.
    let there = audit_rider (rows_of (found_of c.args.words.now)) asked asks in
    c.in_err-rider.ensures.none refl there.0 there.1

pub returns-in_err-wish-clause-none : goal.returns-in_err-wish-clause-none
returns-in_err-wish-clause-none c = λ none asked asks.
    let there = audit_wish (rows_of (found_of c.args.words.now)) asked asks in
    c.in_err-wish.ensures.none refl there.0 there.1
