pub mod Layout
pub mod Reading
pub mod Writing
