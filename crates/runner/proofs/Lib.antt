mod Fronts
mod Lines
mod SoFar
mod Takes
