mod Newlines
pub mod Sorting
mod Names
