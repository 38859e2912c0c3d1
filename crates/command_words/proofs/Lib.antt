pub mod Distinct
pub mod Lone
pub mod Walked
