pub mod Life
pub mod Shown
pub mod Laws
