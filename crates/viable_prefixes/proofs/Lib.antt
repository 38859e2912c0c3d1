pub mod Goes
pub mod Machines
pub mod Texts
pub mod Prefixes
