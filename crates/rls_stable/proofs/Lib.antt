pub mod Least
pub mod Raising
