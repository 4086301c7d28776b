pub mod Filling
pub mod Ternary
