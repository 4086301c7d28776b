pub mod Charges
mod Refreshing
mod Splitting
mod Loading
pub mod Publishing
mod Columns
