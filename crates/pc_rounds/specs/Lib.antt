-- The rounds that a recoverer makes, and a recoverer that counts them.
pub mod Made
pub mod Counted
