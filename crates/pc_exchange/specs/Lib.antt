-- What a session does beside its coordinator, one message after another.
pub mod Aside
pub mod Ending
pub mod Exchange
pub mod Finishing
pub mod Growing
pub mod InTurn
pub mod Jobs
pub mod Recovering
pub mod Rounding
pub mod Rounds
pub mod Told
