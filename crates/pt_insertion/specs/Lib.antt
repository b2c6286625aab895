pub use Rattle.pt_insertion_search.specs.Asked
pub use Rattle.pt_insertion_search.specs.Choice
pub use Rattle.pt_insertion_search.specs.Insertion
pub use Rattle.pt_insertion_search.specs.Possible
pub use Rattle.pt_insertion_search.specs.Removal
pub use Rattle.pt_insertion_search.specs.SplicedStops
pub use Rattle.pt_insertion_log.specs.Written
