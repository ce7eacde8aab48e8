pub mod Column
pub mod Gas
pub mod Laws
pub mod Slopes
pub mod Walk
