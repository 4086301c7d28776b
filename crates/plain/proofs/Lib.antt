pub mod Groups
pub mod Paths
pub mod Runs
pub mod Accounting
pub mod Twins
pub mod Width
