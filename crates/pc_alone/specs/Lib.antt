-- One session alone in a workload.
pub mod Laws
pub mod OneSession
