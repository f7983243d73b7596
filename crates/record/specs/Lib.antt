pub mod Afresh
pub mod Operations
pub mod Promise
pub mod Stages
pub mod Runs
