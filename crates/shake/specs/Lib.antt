pub mod Sponge
pub mod Progress
pub mod Vectors
