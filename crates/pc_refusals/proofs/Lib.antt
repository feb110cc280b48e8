-- Why the count of moves stands on.
pub mod Counted
