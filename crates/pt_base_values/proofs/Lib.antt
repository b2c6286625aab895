pub mod CalendarLemmas
pub mod ChoiceLemmas
pub mod DateTextLemmas
pub mod DayLemmas
pub mod FaultLemmas
pub mod LoadLemmas
pub mod NumberLemmas
pub mod ReadLemmas
