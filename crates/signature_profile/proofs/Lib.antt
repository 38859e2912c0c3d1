pub mod Lists
pub mod Named
pub mod Members
pub mod Shapes
pub mod Signatures
