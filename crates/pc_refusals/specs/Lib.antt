-- How often a commit was moved.
pub mod Moves
