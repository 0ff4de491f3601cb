pub mod RunsOf
pub mod RunsApart
pub mod Texts
pub mod Finding
pub mod RunOrder
pub mod RunPlaces
pub mod RunJoins
pub mod RunEnds
pub mod RunLists
pub mod Sorted
pub mod Gaps
pub mod Searches
pub mod Cuts
pub mod PartPlaces
pub mod Fronts
mod Worked
