mod Ascii
mod Heads
mod Named
mod Pairs
mod Passed
mod Rows
mod Split
