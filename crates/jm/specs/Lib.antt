pub mod Program
pub mod Listing
pub mod NoMain
