-- The wire, and what waits to go over it.
pub mod Outbox
pub mod Verdicts
