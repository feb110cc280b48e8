pub mod Ahead
pub mod Fitting
pub mod Refitting
mod Spelling
