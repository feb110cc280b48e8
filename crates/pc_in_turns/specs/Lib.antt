-- How the sessions and recoverers of a workload go in turns: what each does when it moves, how they learn of commits, what they have made so far, and what
-- they have made in the end.
pub mod Task
pub mod Learning
pub mod Moving
pub mod InTurns
