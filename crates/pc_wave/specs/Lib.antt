-- A wave of messages, and how it stands beside what its session knows.
pub mod Course
pub mod Cursors
pub mod Due
pub mod Joining
pub mod Messages
pub mod Shown
pub mod Standing
pub mod State
pub mod Tries
