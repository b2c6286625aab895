pub mod Box
pub mod Corridor
pub mod Near
pub mod Route
pub mod Way
pub use Rattle.pt_base_values.specs.DateText
pub use Rattle.pt_base_values.specs.declared.place.Place
pub use Rattle.pt_base_values.specs.declared.place.Point
