pub mod AnyDecided
pub mod Box
pub mod Bridge
pub mod Decided
pub mod Squares
pub mod Whole
pub mod Widths
