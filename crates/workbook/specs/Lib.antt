pub mod Pages
pub mod Held
pub mod Room
pub mod Declare
pub mod Feed
