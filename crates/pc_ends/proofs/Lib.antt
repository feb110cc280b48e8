pub mod Begun
pub mod Left
