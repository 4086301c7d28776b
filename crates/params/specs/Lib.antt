pub mod Params
pub mod Sets
