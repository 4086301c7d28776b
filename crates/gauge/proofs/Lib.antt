mod Cutting
mod Going
