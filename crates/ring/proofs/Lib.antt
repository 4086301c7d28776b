pub mod Modular
pub mod Polynomials
pub mod Algebra
pub mod Centring
mod Loops
