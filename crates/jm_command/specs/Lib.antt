pub mod Named
pub mod Commands
