pub mod PartLemmas
pub mod RangeLemmas
pub mod FleetLemmas
mod BookingLemmas
mod RulingLemmas
pub mod RequestLemmas
pub mod TourLemmas
