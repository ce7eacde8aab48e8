pub mod Bytes
pub mod Records
pub mod Lines
pub mod Totals
