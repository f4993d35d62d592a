pub mod Flat
pub mod Cases
pub mod Comps
pub mod Exact
pub mod Agree
pub mod Private
