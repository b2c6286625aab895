pub mod LocalTimeLemmas
pub mod ZoneLemmas
