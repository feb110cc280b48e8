-- What a recoverer's round is, and a recoverer in it and between two.
pub mod Broken
pub mod Exchanges
pub mod InRound
pub mod Recovered
pub mod Recoverer
pub mod Round
pub mod Settled
pub mod UnderWay
