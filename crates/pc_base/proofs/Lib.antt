pub mod Entries
pub mod KeyTables
pub mod VersionOrder
pub mod TxnOrder
pub mod SpanBounds
pub mod KeyText
