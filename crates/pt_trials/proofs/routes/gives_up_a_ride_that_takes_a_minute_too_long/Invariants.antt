use Rattle.pt_trials.proofs.routes.gives_up_a_ride_that_takes_a_minute_too_long.Given as goal

abbrev pub ghosts-fits : goal.ghosts-fits
ghosts-fits g a = record { name = a.blank.name; parts = a.blank.parts }
