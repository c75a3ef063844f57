pub mod Laying
pub mod Values
pub mod RowLaw
pub mod Sounds
pub mod Euclid
pub mod Blocks
pub mod Mets
