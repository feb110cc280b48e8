-- What is kept to decide what an actor may do.
pub mod Keeping
