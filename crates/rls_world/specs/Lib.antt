pub mod Draws
pub mod Trial
pub mod Seen
pub mod Events
pub mod Clean
pub mod Alike
pub mod Computing
