pub mod Air
pub mod Gas
