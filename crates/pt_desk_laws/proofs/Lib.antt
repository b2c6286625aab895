mod PlannedLemmas
mod StandingLemmas
pub mod DutyLemmas
mod FitLemmas
mod EndLemmas
mod HasTourLemmas
pub mod OutcomeLemmas
pub mod NumberLemmas
pub mod SoundLemmas
mod ShownLemmas
mod KeyLemmas
mod ReadLemmas
mod PrivacyLemmas
mod OneLemmas
pub mod AgainLemmas
mod RightLemmas
mod PlanDutyLemmas
