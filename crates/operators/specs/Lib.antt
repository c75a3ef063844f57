pub mod Names
pub mod Line
pub mod Spelling
