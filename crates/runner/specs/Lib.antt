pub mod Steps
pub mod Transcript
