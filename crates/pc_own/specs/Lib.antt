-- The transactions that are kept, and how they stand to those that the session knows.
pub mod Changes
pub mod Numbered
pub mod Places
pub mod Flying
pub mod ReadSpans
