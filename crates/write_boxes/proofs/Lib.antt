pub mod Pieces
pub mod Numbers
pub mod Lengths
pub mod Answers
pub mod Requests
