pub mod KeysAndRows
pub mod OnRecord
pub mod Room
pub mod Seen
mod Coming
