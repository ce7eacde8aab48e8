pub mod Limits
pub mod Buffers
pub mod Stage
pub mod Laws
