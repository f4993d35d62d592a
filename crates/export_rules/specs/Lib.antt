pub mod Places
pub mod Numbers
pub mod Answers
pub mod Room
pub mod FinishReading
pub mod TwoSteps
pub mod Rule
pub mod CutTold
