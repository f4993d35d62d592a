pub mod Utf8s
pub mod Quotes
