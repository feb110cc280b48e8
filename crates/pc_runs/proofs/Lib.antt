pub mod Finished
pub mod Learning
pub mod Learnless
pub mod Whole
