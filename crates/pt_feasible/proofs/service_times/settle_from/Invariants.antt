use Rattle.pt_feasible.proofs.service_times.settle_from.Given as goal

abbrev pub ghosts-settle_from_uncounted : goal.ghosts-settle_from_uncounted
ghosts-settle_from_uncounted g a = record { name = a.blank.name; parts = a.blank.parts }
