pub mod Filled
pub mod Meaning
