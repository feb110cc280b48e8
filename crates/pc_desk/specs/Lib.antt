-- The own list of an actor that is no range, and its messages on their way.
pub mod Aside
pub mod Asks
pub mod Hearing
pub mod WholeScan
pub mod Keeping
pub mod Waves
pub mod OwnLog
pub mod Commits
pub mod Waiting
pub mod Desk
pub mod Refused
pub mod Wave
pub mod Ending
pub mod Rest
