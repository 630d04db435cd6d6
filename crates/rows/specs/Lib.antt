pub mod Bytes
pub mod Classes
pub mod Refusals
pub mod Points
pub mod Prices
pub mod Packed
pub mod Planes
