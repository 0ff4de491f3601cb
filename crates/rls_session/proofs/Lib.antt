pub mod Courses
pub mod Cuts
pub mod Positions
pub mod Reading
pub mod AsTold
pub mod Limits
pub mod Found
pub mod Taking
pub mod Loop
pub mod ChangeLines
pub mod Numbered
pub mod Whole
pub mod Resumed
pub mod Writable
pub mod Sent
pub mod Exchanging
pub mod Answered
mod Told
pub mod Served
pub mod Stages
pub mod Storing
pub mod Reaching
pub mod Called
pub mod Closing
pub mod Performed
pub mod Entries
mod Counts
pub mod Sizes
pub mod Given
pub mod Steps
pub mod AlikeSittings
pub mod AlikeSteps
pub mod Sides
pub mod Agreeing
pub mod Fitting
pub mod Drafting
pub mod AlikeSeats
pub mod Shown
pub mod InPlace
pub mod Edited
pub mod Turned
mod GroupTexts
mod Renames
mod NamesOnce
mod NamesKept
mod NamesAlong
mod Remembering
pub mod Remembered
mod UndoneAtOnce
pub mod Alike
pub mod Histories
pub mod Drafts
pub mod Seats
