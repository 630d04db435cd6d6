pub mod Packing
pub mod Padding
pub mod Planes
pub mod Checks
pub mod Marks
pub mod Zips
pub mod Relays
