pub mod Status
pub mod Output
pub mod Causes
pub mod Limits
pub mod ModeRun
pub mod ModeCheck
pub mod PlainReport
pub mod OutputsAreAccepted
