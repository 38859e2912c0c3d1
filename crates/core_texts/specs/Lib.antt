pub mod Collections
pub mod CoreDeclarations
pub mod Errors
pub mod Objects
pub mod Shapes
pub mod Types
pub mod Values
pub mod Written
