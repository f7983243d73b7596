pub mod Bits
pub mod Table
pub mod Modes
pub mod Answers
pub mod RoundTrip
pub mod Widths
pub mod Examples
