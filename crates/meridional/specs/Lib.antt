pub mod LayerPlace
pub mod LayerTracers
pub mod LayerSwept
