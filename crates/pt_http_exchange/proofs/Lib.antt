pub mod AnsweringLemmas
pub mod ReceivedLemmas
pub mod ExchangeLemmas
pub mod ToldLemmas
pub mod KeepsLemmas
pub mod UniqueLemmas
pub mod HeadDecisions
pub mod MessageDecisions
