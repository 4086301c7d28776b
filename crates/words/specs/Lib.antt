pub mod Marks
pub mod Flow
pub mod Spending
pub mod Refusals
pub mod Tapes
pub mod Health
pub mod Generators
