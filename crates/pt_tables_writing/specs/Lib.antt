pub mod Committing
pub mod Grouped
pub mod Groups
pub mod Least
pub mod Step
pub mod Stored
pub mod Writes
