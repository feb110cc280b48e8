-- What is kept of what an actor knows, and how it stands to that.
pub mod Calls
pub mod Heards
pub mod Order
pub mod Parts
pub mod Sends
