pub mod Lists
pub mod Answer
pub mod Ran
