-- One range behind its lock, and all of them.
pub mod Cell
pub mod Message
pub mod Seats
