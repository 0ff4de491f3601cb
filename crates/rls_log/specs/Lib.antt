pub mod Heads
pub mod Fitting
pub mod Encoded
pub mod Large
pub mod Latest
pub mod Scanned
