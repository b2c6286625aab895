pub mod JsonLemmas
pub mod TripLemmas
pub mod ReplyLemmas
