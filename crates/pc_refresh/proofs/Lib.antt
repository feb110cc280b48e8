-- Why a span goes in at its place.
pub mod Held
pub mod SameSpan
