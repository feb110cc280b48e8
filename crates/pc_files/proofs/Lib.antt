pub mod Narrow
pub mod Views
pub mod Noting
pub mod StaysUncommitted
pub mod Ways
