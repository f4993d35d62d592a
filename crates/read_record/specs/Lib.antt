pub mod Record
pub mod Answer
pub mod State
pub mod Component
pub mod Lent
