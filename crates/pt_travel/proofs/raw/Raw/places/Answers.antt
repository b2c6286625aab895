use Rattle.pt_travel.proofs.raw.Raw.places.Goals as goal

pub returns : goal.returns
returns c = rw (← c.self.view_is) c.self.invariant.1
