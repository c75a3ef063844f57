pub mod Lists
pub mod Placed
pub mod Evaluated
