-- Whether a text is the journal of a run with the run's report.
pub mod ReadAs
pub mod Differing
pub mod Verdicts
pub mod Reading
pub mod OneVerdict
