pub mod RuleLemmas
pub mod WindowLemmas
pub mod DutyLemmas
pub mod PlacedLemmas
