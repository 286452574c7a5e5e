mod Examples
pub mod InstructionsFit
pub mod Lines
pub mod Mnemonics
pub mod NamedOpcodes
pub mod Rows
pub mod SpelledFit
pub mod SwitchesFit
