pub mod Rule
pub mod Groups
pub mod Refresh
pub mod Lawful
pub mod Conjoined
