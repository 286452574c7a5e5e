pub mod Attributes
pub mod KnownValues
pub mod SameUses
pub mod PartsFit
