pub mod Folder
pub mod Performing
