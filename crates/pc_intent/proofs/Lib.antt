mod FirstOther
mod InSpan
mod OwnIntent
mod Putting
mod Rising
