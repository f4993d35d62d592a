pub mod Columns
pub mod Picks
pub mod Planes
