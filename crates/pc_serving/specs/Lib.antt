-- What becomes of the messages of a wave.
pub mod Delivery
