pub mod OneRound
pub mod StagedCommit
