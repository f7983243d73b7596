pub mod Structs
pub mod Promises
