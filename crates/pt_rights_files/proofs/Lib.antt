pub mod Lifted
pub mod Positioned
pub mod PositionedAppeals
pub mod PositionedStanding
pub mod Pushed
pub mod Stepped
pub mod MonthMarks
