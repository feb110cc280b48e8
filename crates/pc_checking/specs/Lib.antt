-- How a check ends.
pub mod Ends
