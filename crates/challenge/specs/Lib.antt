pub mod Challenge
