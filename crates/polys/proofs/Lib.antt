pub mod Places
pub mod Rows
pub mod Sums
pub mod Filling
