pub mod Trees
pub mod Edits
pub mod Patches
pub mod Splits
pub mod Rests
pub mod Beside
