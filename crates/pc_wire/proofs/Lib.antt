pub mod Due
pub mod Rising
