pub mod Law
pub mod Turns
