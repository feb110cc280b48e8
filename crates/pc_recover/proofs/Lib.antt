pub mod Deciding
pub mod Going
pub mod Over
pub mod Stepping
