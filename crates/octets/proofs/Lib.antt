pub mod Order
pub mod Copied
pub mod Parts
pub mod Put
pub mod Octet
pub mod Blocks
