-- Why what is kept of stages and commits stands beside what the session knows.
pub mod Allowing
pub mod Deciding
pub mod Evidenced
pub mod Fates
pub mod Going
pub mod Hears
pub mod Sending
pub mod Steps
