pub mod Faults
pub mod Prints
pub mod Answer
pub mod Reads
