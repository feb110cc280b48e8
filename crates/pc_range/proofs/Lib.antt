pub mod Evaluating
pub mod Seating
pub mod Serving
