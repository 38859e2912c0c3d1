pub mod Texts
pub mod Types
pub mod Declarations
pub mod Listed
