pub mod Refusals
pub mod Rehearsal
pub mod Status
pub mod Tasks
pub mod Told
