mod Runs
pub mod SignsOfText
pub mod Cuts
pub mod TokensSoFar
pub mod Numbers
pub mod Strings
pub mod TokensLie
