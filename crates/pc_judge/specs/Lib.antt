-- What a judge keeps of the actors of a journal.
pub mod Keeping
