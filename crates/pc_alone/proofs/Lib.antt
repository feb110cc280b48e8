pub mod OneAlone
pub mod OneInOrder
