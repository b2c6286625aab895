use Rattle.pt_insertion_log.proofs.steps.step_at.Goals as goal

pub returns-in-Some-ride_raise-clause-step : goal.returns-in-Some-ride_raise-clause-step
returns-in-Some-ride_raise-clause-step g c = c.in-Some-ride_raise.ensures.raise (g.T.Times.minutes c.args.times.now)
