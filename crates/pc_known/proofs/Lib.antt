pub mod Exact
pub mod Marked
pub mod Numbered
pub mod Sending
