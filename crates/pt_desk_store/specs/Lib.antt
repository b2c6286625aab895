pub mod Enough
pub mod LeastState
pub mod Listed
pub mod Store
pub mod Wished
pub use Rattle.pt_feasible.specs.Route
pub use Rattle.pt_base_records.specs.Records
pub use Rattle.pt_desk_spelling.specs.Ranges
