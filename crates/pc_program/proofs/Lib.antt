pub mod Begun
pub mod Ends
pub mod ExactVerdicts
pub mod Headline
pub mod PlainReport
pub mod Accepted
