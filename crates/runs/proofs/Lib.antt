mod Counts
mod Plans
mod Lists
mod Ends
mod Planned
