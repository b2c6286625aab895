pub mod ClosureLemmas
pub mod PlaceLemmas
pub mod MatrixLemmas
pub mod SamePlaces
pub mod SortedLemmas
pub mod RecordLemmas
pub mod ReaderLemmas
