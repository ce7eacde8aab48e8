pub mod Command
pub mod Laws
