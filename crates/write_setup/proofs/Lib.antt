pub mod Ranges
pub mod Marks
pub mod Wraps
pub mod Settings
