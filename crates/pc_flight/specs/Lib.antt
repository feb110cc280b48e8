pub mod InFlight
pub mod Laws
