pub mod Gas
