pub mod LongPlace
pub mod LongTracers
pub mod LongSwept
