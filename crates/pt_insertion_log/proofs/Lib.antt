pub mod ExistenceLemmas
pub mod FitLemmas
pub mod RideLemmas
pub mod TouchLemmas
pub mod WrittenLemmas
