-- In reading order: which findings are told, where a finding stands, what it names, and its line.
pub mod Told
pub mod Places
pub mod Others
pub mod Lines
