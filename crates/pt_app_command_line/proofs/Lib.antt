mod LineLemmas
mod PlaceLemmas
mod PlainLemmas
mod SameLemmas
mod WordLemmas
