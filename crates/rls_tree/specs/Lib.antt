pub mod Gaps
pub mod Targets
