mod EndLemmas
mod MomentLemmas
mod PortLemmas
mod ServingLemmas
mod TurnLemmas
