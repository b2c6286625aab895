pub mod Parts
pub mod Message
pub mod Input
pub mod Exchange
pub mod Answering
pub mod Received
