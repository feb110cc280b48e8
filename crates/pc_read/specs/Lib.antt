-- What a borrowed value of the reader stands for.
pub mod Given
pub mod Items
pub mod Kinds
pub mod Left
pub mod Lines
pub mod Lists
pub mod Parts
pub mod Texts
pub mod Rising
pub mod JournalsAreRead
pub mod ReadAsSpelled
