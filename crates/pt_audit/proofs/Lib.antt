pub mod CasesLemmas
pub mod LawLemmas
pub mod NumberLemmas
pub mod ReadingLemmas
pub mod TextLemmas
pub mod TotalLemmas
