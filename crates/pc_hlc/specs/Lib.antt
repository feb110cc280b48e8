-- What a session's clock gives.
pub mod Giving
