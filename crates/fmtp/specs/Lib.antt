pub mod Settings
pub mod Text
pub mod Meaning
pub mod Means
pub mod Answers
pub mod Steps
