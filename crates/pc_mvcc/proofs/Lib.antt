mod Rising
mod Joined
mod Spans
mod Seen
