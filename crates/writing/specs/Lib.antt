pub mod Pieces
pub mod Sizes
pub mod Answers
