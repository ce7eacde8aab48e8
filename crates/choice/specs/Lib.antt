pub mod Chosen
pub mod OneSubstep
pub mod Cases
