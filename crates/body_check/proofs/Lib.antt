pub mod Found
pub mod PlainNames
pub mod Rules
pub mod Indexed
pub mod Matched
pub mod Joined
pub mod Judged
pub mod JudgedFaults
