pub mod Feed
pub mod Blocks
pub mod Lane
pub mod Output
