-- What messages and events say, and what requests do to the records of transactions.
pub mod Intents
pub mod Place
pub mod RecordRows
pub mod Replies
pub mod Requests
pub mod Stamps
pub mod Table
pub mod Views
