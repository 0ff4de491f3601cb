pub mod Rising
pub mod Places
pub mod Zipped
pub mod Added
pub mod Steps
