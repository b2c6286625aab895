pub mod Refusal
pub mod Inquiry
