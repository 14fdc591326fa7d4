pub mod Ranges
pub mod Made
pub mod Sums
pub mod Sizes
pub mod Arrays
