pub mod Spendings
pub mod Meters
pub mod Checks
