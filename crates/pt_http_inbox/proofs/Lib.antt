pub mod ReadsLemmas
pub mod HeadLemmas
