pub mod Shapes
pub mod Bodies
pub mod Differences
pub mod ReportText
pub mod Found
pub mod Unique
