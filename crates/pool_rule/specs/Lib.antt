pub mod EqualParts
pub mod Evenly
