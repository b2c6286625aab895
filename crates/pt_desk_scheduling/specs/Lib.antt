pub mod Plan
pub mod Uses
pub mod Routes
pub mod Scheduling
pub use Rattle.pt_insertion_search.specs.Choice
pub use Rattle.pt_insertion_search.specs.Insertion
pub use Rattle.pt_insertion_search.specs.declared.asked.Asked
pub use Rattle.pt_insertion_search.specs.declared.chosen.Chosen
