pub mod Stops
pub mod Events
pub mod Lives
pub mod Groups
pub mod Rounds
pub mod Runs
pub mod Premises
pub mod Examples
