pub mod Coming
pub mod Rising
