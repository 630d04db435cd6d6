pub mod Scripts
pub mod Stages
