pub mod Listing
pub mod Narrowed
pub mod Existing
mod Walking
