pub mod Verify
mod Tills
mod Turns
pub mod Places
pub mod Newer
pub mod Alike
