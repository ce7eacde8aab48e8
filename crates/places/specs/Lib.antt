pub mod Bits
pub mod Totals
pub mod Walk
pub mod Tested
pub mod Fluxes
