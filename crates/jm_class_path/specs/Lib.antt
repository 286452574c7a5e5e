-- In reading order: the classes that a class uses, which names are looked for, where a name is looked for, what is found, and the files of a program.
pub mod Uses
pub mod Search
pub mod Places
pub mod Lookups
pub mod Files
pub mod Programs
