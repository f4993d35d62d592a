pub mod LentFile
pub mod Exact
