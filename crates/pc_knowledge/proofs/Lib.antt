pub mod GoodReads
pub mod Begun
pub mod LastGood
pub mod Raised
