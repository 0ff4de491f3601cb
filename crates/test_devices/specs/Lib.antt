pub mod Lossy
pub mod LossyLaws
