pub mod Building
pub mod Fronts
pub mod Leads
pub mod Numbered
pub mod Texts
