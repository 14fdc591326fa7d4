pub mod Adding
pub mod Exchange
pub mod Fills
pub mod First
pub mod Together
