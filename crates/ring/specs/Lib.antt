pub mod Ring
pub mod Laws
pub mod Long
