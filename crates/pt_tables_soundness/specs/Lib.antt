pub mod Files
pub mod Pairs
pub mod Tables
