pub mod ListLemmas
mod ScheduledLemmas
mod UseLemmas
pub mod PlanLemmas
pub mod RouteLemmas
pub mod FeasibleLemmas
