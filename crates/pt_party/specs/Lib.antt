pub mod Fare
pub mod Party
