mod SoundLemmas
mod RunLemmas
mod FindLemmas
pub mod CrashLemmas
mod AnswerLemmas
mod RulingLemmas
mod QuietLemmas
mod FitLemmas
mod PlaceLemmas
pub mod RefusalLemmas
