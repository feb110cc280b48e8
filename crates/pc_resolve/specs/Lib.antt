pub mod Laws
pub mod ResolveKnows
pub mod Resolving
