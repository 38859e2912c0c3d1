pub mod Main
pub mod Last
