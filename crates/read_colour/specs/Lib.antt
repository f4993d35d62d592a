pub mod Colr
pub mod Cases
