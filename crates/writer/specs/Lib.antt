pub mod Rows
pub mod Write
pub mod Answers
pub mod Promise
pub mod Stages
