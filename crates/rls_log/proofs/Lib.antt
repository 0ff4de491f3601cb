pub mod Uncovered
pub mod Entries
pub mod Larges
pub mod Steps
pub mod Bounds
pub mod Contexts
pub mod FoundOut
