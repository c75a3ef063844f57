pub mod Operands
pub mod Rows
pub mod Counts
pub mod Limits
pub mod Law
pub mod Ands
