pub mod Bounds
pub mod Ranges
pub mod Records
pub mod Days
pub mod Energy
