pub mod Once
pub mod Order
pub mod Reading
pub mod Taking
