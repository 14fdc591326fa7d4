pub mod Scans
pub mod Turns
pub mod Smallest
pub mod Holding
pub mod Fills
pub mod Joins
pub mod Commits
