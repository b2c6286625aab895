pub mod ConditionAscii
pub mod ListReading
pub mod ReadingLemmas
