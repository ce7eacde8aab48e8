pub mod Laws
pub mod Program
pub mod Cases
pub mod Corollaries
