-- What became of the stages and commits that a transaction sent, as its session knows it.
pub mod Hearing
pub mod Kept
pub mod Laws
pub mod Standing
