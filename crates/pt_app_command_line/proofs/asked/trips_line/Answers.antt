use Rattle.std.proofs.Common.{refl}
use Rattle.clap.specs.Words.{found_of, rows_of}
use Rattle.pt_app_command_line.proofs.LineLemmas.{trips_day}
use Rattle.pt_app_command_line.proofs.asked.trips_line.Goals as goal

pub returns-in_err-day_at-clause-none : goal.returns-in_err-day_at-clause-none
returns-in_err-day_at-clause-none c = λ none asked asks.
    let there = trips_day (rows_of (found_of c.args.words.now)) asked asks in
    c.in_err-day_at.ensures.none refl there.0 there.1
