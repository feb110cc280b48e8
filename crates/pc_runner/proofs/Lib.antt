mod Closed
mod Whole
