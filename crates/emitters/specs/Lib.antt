pub mod Place
pub mod Entered
pub mod Tick
pub mod Reading
