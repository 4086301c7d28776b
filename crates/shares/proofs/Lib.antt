pub mod Pairs
mod Progress
pub mod Boolean
pub mod Folding
mod Products
mod Crossing
mod Drawing
