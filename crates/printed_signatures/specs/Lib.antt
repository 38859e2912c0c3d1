pub mod Lexical
pub mod Nesting
pub mod Unplaced
pub mod Writable
pub mod ReadBack
