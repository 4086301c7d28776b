pub mod Areas
pub mod Tills
pub mod Cards
pub mod State
