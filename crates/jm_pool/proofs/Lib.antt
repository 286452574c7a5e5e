pub mod BuildingLaws
pub mod BuildingRuns
pub mod BuiltPools
pub mod FrontLaws
pub mod ModifiedText
pub mod NumberedPools
pub mod TextLengths
