pub mod Request
pub mod Window
pub mod Rules
pub mod Planning
pub mod Booking
pub use Rattle.pt_rights_visitors.specs.Periods
