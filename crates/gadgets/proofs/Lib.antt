pub mod Carries
pub mod Selection
pub mod Masks
