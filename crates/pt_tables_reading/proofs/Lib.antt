pub mod ConditionAscii
pub mod ConditionReading
pub mod PointReading
pub mod ReadingLemmas
