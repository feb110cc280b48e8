-- A session by its own list: how it stands between its calls and in one, and what its calls and its steps make.
pub mod Session
pub mod InTurn
pub mod InCall
pub mod Calls
pub mod Steps
pub mod Ending
pub mod Token
pub mod Learning
pub mod Behind
