pub mod Padding
pub mod RowLists
pub mod Ends
pub mod Changed
pub mod Asking
pub mod Turns
pub mod Runs
pub mod Examples
