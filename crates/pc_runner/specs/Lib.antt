-- What the sessions and recoverers of a workload have left, and the run that is made of it.
pub mod Leaving
pub mod WorkRun
