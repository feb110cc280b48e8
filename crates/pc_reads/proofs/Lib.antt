pub mod Goods
pub mod Ordered
pub mod Several
