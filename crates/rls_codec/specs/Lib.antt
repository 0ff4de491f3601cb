pub mod Reading
pub mod Spelled
pub mod Gives
pub mod CodecLaws
pub mod Computing
