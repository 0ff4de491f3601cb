pub mod Alike
pub mod Files
pub mod Found
pub mod Kept
pub mod Meant
pub mod Statuses
