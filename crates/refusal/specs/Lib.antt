pub mod Numbers
pub mod Told
pub mod Tests
pub mod Residues
