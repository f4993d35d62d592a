pub mod Written
pub mod Column
pub mod Plane
pub mod Private
