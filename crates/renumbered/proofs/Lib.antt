mod Visits
mod Sums
mod Moving
mod Keeping
