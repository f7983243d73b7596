pub mod Reading
pub mod Promise
pub mod Filling
pub mod Bench
