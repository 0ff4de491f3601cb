pub mod Lines
pub mod KeptFile
pub mod Endings
pub mod Errors
pub mod Calls
