pub mod Shape
pub mod Parentheses
pub mod Profile
pub mod WellNamed
