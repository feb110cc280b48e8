-- The one history of clients that run in turns or on threads.
pub mod Clients
pub mod Laws
pub mod Once
pub mod Order
pub mod Shares
