pub mod Grid
pub mod Answer
pub mod Limiter
pub mod Agrees
pub mod EachTracer
pub mod The
pub mod Lent
