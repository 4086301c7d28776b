pub mod Parts
pub mod Hits
pub mod Accepting
