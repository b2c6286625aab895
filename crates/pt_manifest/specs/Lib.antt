pub mod Days
pub mod Manifests
pub mod Letters
pub mod Export
