-- Why a wave goes on standing.
pub mod Awaiting
pub mod Behind
pub mod Changed
pub mod Cursors
pub mod Dues
pub mod ForCall
pub mod Hearing
pub mod Joining
pub mod Lists
pub mod Losing
pub mod Places
pub mod Rounds
pub mod Sending
pub mod Standings
pub mod States
pub mod Tries
