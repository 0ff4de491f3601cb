pub mod Passages
pub mod Limits
pub mod Lasting
