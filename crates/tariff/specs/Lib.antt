pub mod Bounds
pub mod Generators
pub mod Bids
pub mod Schedules
pub mod Costs
pub mod Worked
