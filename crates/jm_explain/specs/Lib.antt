pub mod Asked
pub mod Codes
pub mod Items
pub mod Table
