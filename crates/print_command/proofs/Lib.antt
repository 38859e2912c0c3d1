pub mod OneReading
pub mod InOrder
pub mod OneOutcome
pub mod Added
pub mod ShownLines
pub mod Answered
pub mod Refusals
