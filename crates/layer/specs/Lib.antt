pub mod Cells
pub mod Passing
