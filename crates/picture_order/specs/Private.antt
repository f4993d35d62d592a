-- The terms of the contracts of private functions: nothing here has to be believed.
pub mod Positions
pub mod Steps
