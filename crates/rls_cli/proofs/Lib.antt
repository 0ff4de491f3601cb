mod Counted
mod Ending
