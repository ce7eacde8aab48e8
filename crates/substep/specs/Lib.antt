pub mod Faces
pub mod Cells
pub mod Pieces
