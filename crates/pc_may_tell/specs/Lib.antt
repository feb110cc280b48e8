-- What an actor may tell, by parts.
pub mod Ending
pub mod Heard
pub mod Losing
pub mod Moving
pub mod Scanned
