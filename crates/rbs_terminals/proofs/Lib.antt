pub mod Words
pub mod Numbers
pub mod Texts
pub mod Stands
pub mod Next
