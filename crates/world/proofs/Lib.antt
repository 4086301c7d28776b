mod Checks
mod Loadings
mod Performing
