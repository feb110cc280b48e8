-- How a text is read as a journal, and which histories have a spelling.
pub mod Bytes
pub mod Cutting
pub mod Reading
pub mod ReadingLines
pub mod ReadingReport
pub mod OneToOne
pub mod ReadingHead
pub mod RunsTellBare
