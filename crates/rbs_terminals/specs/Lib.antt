pub mod Keywords
pub mod Marks
pub mod Values
pub mod Kinds
pub mod Sorts
pub mod Terminals
