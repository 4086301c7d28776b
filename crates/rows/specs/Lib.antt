pub mod Payment
pub mod Signing
pub mod Table
