pub mod Coding
pub mod Keeper
pub mod Known
pub mod Plans
pub mod Writable
pub use Rattle.pt_desk_rules.specs.Sound
pub use Rattle.pt_desk_rules.specs.State
pub use Rattle.pt_desk_rules.specs.declared.table_name.TableName
