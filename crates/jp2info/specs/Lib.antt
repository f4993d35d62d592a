pub mod Utf8
pub mod Quote
pub mod Private
