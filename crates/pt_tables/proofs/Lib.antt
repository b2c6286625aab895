pub mod AdoptLemmas
pub mod MigrationLemmas
pub mod NewLemmas
pub mod RowidLemmas
