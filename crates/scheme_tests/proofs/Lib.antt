pub mod Places
pub mod PlacedRows
pub mod Codes
pub mod Evaluating
