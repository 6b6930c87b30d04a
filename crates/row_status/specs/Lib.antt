pub mod RowStatus
