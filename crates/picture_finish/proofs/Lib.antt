pub mod Packing
pub mod ColumnsOf
pub mod Rooms
pub mod Packs
pub mod Colours
pub mod Finishes
pub mod Sums
