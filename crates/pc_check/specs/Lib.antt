-- Which entry of a journal breaks which rule first.
pub mod Rules
pub mod FirstBroken
pub mod Judging
