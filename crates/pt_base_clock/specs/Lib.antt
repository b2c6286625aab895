pub mod LocalTime
