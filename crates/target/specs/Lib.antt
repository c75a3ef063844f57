pub mod Sorts
pub mod Kinds
pub mod Tables
pub mod Values
pub mod Division
pub mod Meaning
pub mod Soundness
pub mod Laws
