-- All that is kept of what an actor knows, and how it stands to that.
pub mod Asking
pub mod Keeping
pub mod Good
pub mod LastGood
