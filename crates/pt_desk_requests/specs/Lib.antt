pub mod Letters
pub use Rattle.sha2.specs.Sha256
