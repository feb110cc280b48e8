pub mod Leaving
pub mod Serving
pub mod Seating
pub mod HandingIn
