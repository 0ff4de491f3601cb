pub mod Worked
mod Located
pub mod Pieces
pub mod Cuts
pub mod ReadBack
pub mod OneWord
