-- The order in which what was read stands.
pub mod SpanTotal
