pub mod History
pub mod Promise
pub mod Finishing
pub mod Planning
