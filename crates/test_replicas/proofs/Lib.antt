pub mod Renamed
mod Taken
