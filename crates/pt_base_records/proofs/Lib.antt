pub mod RecordLemmas
pub mod OrderLemmas
pub mod TableLemmas
pub mod WithinLemmas
pub mod SplitLemmas
