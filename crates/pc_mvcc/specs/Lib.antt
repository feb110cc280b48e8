pub mod Chains
pub mod VisibleIn
