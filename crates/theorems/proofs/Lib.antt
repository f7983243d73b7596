pub mod Sessions
pub mod RoundTrips
pub mod NotEmpty
pub mod NotGiven
pub mod Theorems
