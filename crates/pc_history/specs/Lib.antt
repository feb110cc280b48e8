-- Histories: which are fine, what each actor stores and knows of one, and how a table keeps it.
pub mod Sense
pub mod Own
pub mod History
pub mod World
pub mod Parts
pub mod Meanings
pub mod Closed
pub mod Table
pub mod Steps
pub mod Ties
pub mod Dealt
