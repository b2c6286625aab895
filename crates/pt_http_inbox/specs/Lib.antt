pub mod Head
pub mod Reads
pub mod Inbox
pub mod Looked
