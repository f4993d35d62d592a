pub mod Split
pub mod Child
pub mod Jp2h
pub mod HeaderBox
pub mod Private
