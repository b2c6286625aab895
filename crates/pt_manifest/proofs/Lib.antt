pub mod CsvLemmas
pub mod DaysLemmas
