mod Finishing
mod Closing
