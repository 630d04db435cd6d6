pub mod Views
pub mod Calls
pub mod Tickets
pub mod Soundness
pub mod Tries
pub mod Jobs
pub mod Steps
