pub mod Evaluated
pub mod Moves
pub mod Order
pub mod Rising
pub mod Shares
