pub mod Refusing
pub mod Stated
pub mod Shared
pub mod SumRows
pub mod BitwiseRows
pub mod Eithers
