pub mod Checked
pub mod Private
