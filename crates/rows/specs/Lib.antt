pub mod Gas
pub mod Rows
pub mod Swept
