-- A session with its script, over its own list: how it stands between its turns, what each turn makes, and how it learns of a commit.
pub mod Ended
pub mod Scripted
pub mod Taking
pub mod Learning
