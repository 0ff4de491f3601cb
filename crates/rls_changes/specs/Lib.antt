pub mod Changes
pub mod Telling
pub mod Computing
pub mod ChangesLaws
pub mod Edits
pub mod Places
