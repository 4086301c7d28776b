pub mod Load
pub mod Remask
pub mod Sign
