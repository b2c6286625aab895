pub mod ExplanationLemmas
pub mod LogLemmas
