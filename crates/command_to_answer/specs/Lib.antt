pub mod Fill
pub mod Signed
pub mod Makes
pub mod Room
