-- May tell, a file for each kind of answer.
pub mod Begin
pub mod Data
pub mod End
pub mod Refusal
