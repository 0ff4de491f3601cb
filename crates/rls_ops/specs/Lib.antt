pub mod Shapes
pub mod Sizes
pub mod Same
pub mod Spelling
pub mod Rows
pub mod Waiting
pub mod WellFormed
