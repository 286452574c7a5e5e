pub mod Token
pub mod Signs
pub mod Tokens
pub mod Grammar
pub mod Lines
pub mod Literals
pub mod Integers
