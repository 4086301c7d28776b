pub mod Sharewise
