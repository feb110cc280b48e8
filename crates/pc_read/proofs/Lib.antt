pub mod Places
pub mod Digits
pub mod Items
pub mod Steps
pub mod SplitKeys
pub mod Again
pub mod Owned
pub mod Spelled
