pub mod Explanations
pub mod Floors
pub mod Logs
