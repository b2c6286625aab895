pub mod Status
pub mod ContentType
pub mod Json
pub mod Trips
pub mod Body
pub mod Response
pub mod Reply
