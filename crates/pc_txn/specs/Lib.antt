-- The open transaction, what it sends, and how it stands beside what its session knows.
pub mod Silence
pub mod Counted
pub mod Laws
pub mod Opened
pub mod Queries
pub mod Staged
pub mod Standing
pub mod Writing
