mod Going
mod Counting
