pub mod Places
pub mod Distinct
pub mod Rest
pub mod Later
pub mod Fresh
