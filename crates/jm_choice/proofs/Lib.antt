pub mod Entries
pub mod FreshSeats
pub mod Ends
