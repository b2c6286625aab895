pub mod AlikeLemmas
mod EachLemmas
mod FoundLemmas
mod FleetLemmas
mod FileLemmas
mod PairLemmas
pub mod PairedLemmas
mod FitLemmas
pub mod TableLemmas
