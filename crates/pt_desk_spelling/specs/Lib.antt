pub mod Fields
pub mod Law
pub mod Ranges
pub mod Replies
pub mod Requests
