-- May send, a file for each kind of request.
pub mod Abort
pub mod Beat
pub mod Commit
pub mod Push
pub mod Put
pub mod Reading
pub mod Recovery
pub mod Refresh
pub mod Settling
pub mod Stage
