pub mod JoinLemmas
pub mod NumbersLemmas
pub mod ResultLemmas
pub mod TextLemmas
