pub mod Moment
pub mod Moments
pub mod Rehearsal
pub use Rattle.pt_http_exchange.specs.Exchange
pub use Rattle.pt_http_exchange.specs.Input
