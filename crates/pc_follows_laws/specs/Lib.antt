pub mod CallRounds
pub mod PipelinedRounds
