-- What an actor may send, by parts.
pub mod Again
pub mod Listed
pub mod Settled
pub mod Staging
pub mod Deciding
pub mod Refreshing
