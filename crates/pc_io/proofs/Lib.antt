pub mod Taken
pub mod Copied
