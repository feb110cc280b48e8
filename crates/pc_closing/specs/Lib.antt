-- From sessions and recoverers that have finished to the one history.
pub mod Full
pub mod HeldUp
pub mod Served
pub mod Leaving
pub mod Opening
pub mod Closing
