pub mod RowOf
