pub mod Types
pub mod Table
pub mod Calls
pub mod Typing
pub mod Faults
pub mod Matching
pub mod Walk
