pub mod Copy
pub mod Octet
pub mod Part
pub mod Put
