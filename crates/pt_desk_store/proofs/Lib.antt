pub mod StoreLemmas
pub mod ReadLemmas
mod FileLemmas
mod NewLemmas
mod ManifestLemmas
pub mod SomeLemmas
mod HoursLemmas
mod WishedLemmas
mod DenialLemmas
