pub mod Columns
pub mod Substeps
