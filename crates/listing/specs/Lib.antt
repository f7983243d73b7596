pub mod Line
pub mod Listing
pub mod Answers
pub mod Steps
pub mod Sample
