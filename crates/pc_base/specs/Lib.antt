-- The words that every contract shares: keys, values, timestamps, transactions, spans, versions and read bounds.
pub mod Bound
pub mod Counts
pub mod Clock
pub mod Faults
pub mod Key
pub mod Keyed
pub mod Rising
pub mod Span
pub mod SpanOrder
pub mod SpanBounds
pub mod Timestamp
pub mod TimestampParts
pub mod Transaction
pub mod Value
pub mod Versions
