pub mod EarlierEntries
pub mod NextEntry
