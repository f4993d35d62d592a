pub mod Table
pub mod Number
pub mod Lowest
