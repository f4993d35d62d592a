pub mod Places
pub mod Room
pub mod ThreeLists
pub mod FinishReading
pub mod Fitting
pub mod TwoSteps
pub mod Rule
pub mod CutTold
