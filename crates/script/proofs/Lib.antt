pub mod Numbers
pub mod Back
pub mod Turns
pub mod Spaced
pub mod Pieces
