pub mod RowPlace
