pub mod Fitting
pub mod Reading
pub use Rattle.pt_desk_spelling.specs.Ranges
pub use Rattle.pt_desk_spelling.specs.Replies
