pub mod Within
pub mod Keywords
pub mod Parameters
pub mod Behind
pub mod Onward
