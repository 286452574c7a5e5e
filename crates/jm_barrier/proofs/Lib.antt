pub mod Marking
pub mod Membership
