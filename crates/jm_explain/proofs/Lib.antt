pub mod Finding
pub mod Lists
