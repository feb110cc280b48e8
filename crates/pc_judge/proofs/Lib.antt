pub mod Exact
pub mod Judged
