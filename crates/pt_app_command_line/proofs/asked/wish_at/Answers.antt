use Rattle.std.proofs.Common.{refl}
use Rattle.pt_app_command_line.proofs.asked.wish_at.Goals as goal

pub returns-in_err-day_at-clause-none : goal.returns-in_err-day_at-clause-none
returns-in_err-day_at-clause-none c = λ none wish has. c.in_err-day_at.ensures.none refl wish.day has.0

pub returns-in_err-minute_at-clause-none : goal.returns-in_err-minute_at-clause-none
returns-in_err-minute_at-clause-none c = λ none wish has. c.in_err-minute_at.ensures.none refl wish.pickup has.1

pub returns-in_err-id_at-clause-none : goal.returns-in_err-id_at-clause-none
returns-in_err-id_at-clause-none c = λ none wish has. c.in_err-id_at.ensures.none refl wish.from has.2

pub returns-in_err-id_at-2-clause-none : goal.returns-in_err-id_at-2-clause-none
returns-in_err-id_at-2-clause-none c = λ none wish has. c.in_err-id_at-2.ensures.none refl wish.to has.3

pub returns-in_err-by_at-clause-none : goal.returns-in_err-by_at-clause-none
returns-in_err-by_at-clause-none c = λ none wish has. c.in_err-by_at.ensures.none refl wish.by has.4

pub returns-in_err-number_at-clause-none : goal.returns-in_err-number_at-clause-none
returns-in_err-number_at-clause-none c = λ none wish has. c.in_err-number_at.ensures.none refl _ has.5

pub returns-in_err-number_at-2-clause-none : goal.returns-in_err-number_at-2-clause-none
returns-in_err-number_at-2-clause-none c = λ none wish has. c.in_err-number_at-2.ensures.none refl wish.companions has.6
