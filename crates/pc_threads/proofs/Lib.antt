pub mod Places
pub mod Behind
pub mod RoundsBehind
pub mod Gone
pub mod RoundsGone
pub mod Whole
pub mod OnThreads
