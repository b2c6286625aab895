pub mod Migration
pub mod RefusedBy
