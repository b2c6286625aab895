pub mod Asking
pub mod Content
pub mod Marks
pub mod Plans
pub use Rattle.sqlite_resolve.specs.declared.compiled.Compiled
pub use Rattle.sqlite_trees.specs.Objects
