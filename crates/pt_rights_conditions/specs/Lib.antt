pub mod Texts
pub mod Trips
