-- What a read bound leaves to a writer.
pub mod LeastWrite
