pub mod Sessions
pub mod NotEmpty
pub mod Theorems
