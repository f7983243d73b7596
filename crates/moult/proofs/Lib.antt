pub mod Counts
pub mod Structs
