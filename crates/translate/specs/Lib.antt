pub mod Translation
pub mod Answer
