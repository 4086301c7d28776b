pub mod Nonces
pub mod Costs
pub mod Run
pub mod Laws
