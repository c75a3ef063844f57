pub mod Shifting
pub mod Bounds
pub mod Taking
pub mod Closure
pub mod OneBit
pub mod Rolling
pub mod Signs
pub mod Parsing
