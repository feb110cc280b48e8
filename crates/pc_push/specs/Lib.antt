pub mod Laws
pub mod PushKnows
pub mod Pushing
