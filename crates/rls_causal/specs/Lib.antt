pub mod Putting
pub mod Queued
pub mod Queues
