pub mod Laws
mod Words
mod Positions
mod Writes
