pub mod Lists
pub mod Maps
pub mod Iso
pub mod Reach
pub mod Glue
pub mod Gaps
pub mod Tuples
pub mod Repeat
pub mod Down
pub mod Loops
pub mod BetweenLaws
pub mod Members
pub mod Positions
pub mod Agreeing
pub mod Vectors
pub mod Named
pub mod Shifted
mod Worked
pub mod Ends
mod BetweenSteps
mod Counts
mod Faults
