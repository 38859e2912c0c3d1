pub mod Runs
pub mod Prefixes
