pub mod Lent
pub mod Cases
pub mod AsBefore
