pub mod ChainLaws
mod ExtentLaws
mod HierarchyLaws
mod InstanceLaws
mod KindLaws
mod KindRowLaws
mod LayoutLaws
mod ListedLaws
mod MethodLaws
pub mod PlaceLaws
mod PlacingLaws
mod RowLaws
mod SlotLaws
mod MergeLaws
mod NodeLaws
pub mod SharedRowLaws
mod TableLaws
mod WriteLaws
pub mod TextLaws
