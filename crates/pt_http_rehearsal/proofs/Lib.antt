pub mod LineLemmas
pub mod MomentLemmas
pub mod NextLemmas
pub mod RehearsalLemmas
pub mod ServedLemmas
