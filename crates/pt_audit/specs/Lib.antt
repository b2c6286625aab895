pub mod Bounds
pub mod Cases
pub mod Insertion
pub mod Letters
pub mod Reading
pub mod RightLog
pub mod Text
