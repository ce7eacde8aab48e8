pub mod Outcome
pub mod Laws
pub mod Leaves
pub mod Carry
