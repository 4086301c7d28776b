pub mod Stages
pub mod Attempt
