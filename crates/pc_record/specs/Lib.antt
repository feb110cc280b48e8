pub mod RecordOf
pub mod RecordRequest
