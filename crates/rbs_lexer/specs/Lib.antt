pub mod Pieces
pub mod Names
pub mod Integers
pub mod Kinds
pub mod Longest
pub mod Division
pub mod Standing
pub mod Scanned
