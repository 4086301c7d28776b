pub mod Resume
pub mod Drawing
