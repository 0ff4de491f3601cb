mod Asked
mod Called
pub mod Held
mod Images
pub mod Moments
pub mod Parts
mod Recorded
mod Replays
pub mod Rests
mod States
mod Stops
