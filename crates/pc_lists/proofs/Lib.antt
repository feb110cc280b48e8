pub mod Anywhere
pub mod Counts
pub mod Each
pub mod Lists
pub mod Same
pub mod Zips
