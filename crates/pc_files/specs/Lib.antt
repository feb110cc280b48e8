-- How what was sent and heard is filed.
pub mod Filing
pub mod FirstPuts
pub mod RefreshedSpans
pub mod SettledKeys
pub mod Uncommitted
