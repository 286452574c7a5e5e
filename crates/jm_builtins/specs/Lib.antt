pub mod Members
pub mod List
pub mod Numbers
