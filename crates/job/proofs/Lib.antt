pub mod Questions
pub mod Same
pub mod Sounds
