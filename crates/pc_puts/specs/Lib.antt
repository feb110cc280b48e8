pub mod Puts
pub mod Changes
