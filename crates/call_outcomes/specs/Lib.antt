pub mod Only
pub mod Loads
pub mod Code
pub mod Outcomes
pub mod Contents
pub mod Gathers
