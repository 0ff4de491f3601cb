pub mod Last
pub mod Opened
pub mod Putting
pub mod Queued
pub mod Queues
pub mod Ready
