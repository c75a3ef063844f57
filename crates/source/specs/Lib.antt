pub mod Widths
pub mod Numbers
pub mod Sorts
pub mod Values
pub mod Words
pub mod Text
pub mod Operands
pub mod Laws
