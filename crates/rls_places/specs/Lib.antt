pub mod Words
pub mod PlacesLaws
pub mod Computing
