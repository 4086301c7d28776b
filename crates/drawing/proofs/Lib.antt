pub mod Mapping
pub mod Resuming
mod Widths
mod Candidates
