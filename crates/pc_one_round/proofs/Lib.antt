pub mod Lists
pub mod OneCall
pub mod OneRound
pub mod OneRun
pub mod StagedCommit
