pub mod ReadOn
pub mod PlaceSums
pub mod Puts
