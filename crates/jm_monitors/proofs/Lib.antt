pub mod EntryLemmas
pub mod InTheModel
pub mod Counted
pub mod Answering
pub mod Moving
