pub mod PrintStreams
pub mod Kinds
pub mod Methods
pub mod Tables
pub mod Frequent
pub mod Links
pub mod Named
