pub mod Known
pub mod BehindPool
