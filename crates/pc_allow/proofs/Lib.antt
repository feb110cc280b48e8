pub mod NextOne
