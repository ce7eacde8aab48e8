pub mod Line
pub mod Tracer
pub mod Slopes
