pub mod Taking
mod Made
mod Keeping
mod Acts
mod Updates
mod Slots
mod Followed
mod Pooling
mod Priced
mod Standing
mod Lawful
mod Again
