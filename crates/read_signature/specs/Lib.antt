pub mod Signature
pub mod FileType
