pub mod Laws
pub mod RecoverKnows
pub mod Recovering
