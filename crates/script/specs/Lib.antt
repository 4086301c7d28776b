pub mod Words
pub mod Answers
pub mod Streams
pub mod Lines
pub mod Integers
