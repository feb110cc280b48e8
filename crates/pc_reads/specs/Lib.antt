pub mod ReadsStanding
pub mod Replies
