-- How the sessions and recoverers of a workload go on threads: each in a lane of its own, what they have made in the end, and the law of the history that
-- they leave.
pub mod Lanes
pub mod RoundLanes
pub mod OnThreads
pub mod Laws
