pub mod Alike
mod Answered
mod Called
mod Closing
mod EditsAlone
mod Faults
mod Finishing
mod Fresh
pub mod GroupCommands
pub mod Groups
mod Headlines
mod Messages
mod OnFiles
mod Pieces
mod Runs
mod Scripts
mod Statuses
mod Worked
mod WorkedFormats
