-- Terms of the contracts of private functions. No public contract names them.
pub mod Twice
