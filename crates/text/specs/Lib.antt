pub mod Numeral
pub mod Kept
pub mod Lines
pub mod Law
pub mod Outcome
pub mod Room
pub mod Refused
