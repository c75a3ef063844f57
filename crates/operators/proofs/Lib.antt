pub mod Splitting
pub mod Numbers
pub mod Spelled
