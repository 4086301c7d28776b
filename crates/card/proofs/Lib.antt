mod Ending
mod Signings
