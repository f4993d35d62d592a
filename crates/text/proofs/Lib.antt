pub mod Puts
pub mod Decimals
pub mod Shapes
pub mod Lines
pub mod Rooms
