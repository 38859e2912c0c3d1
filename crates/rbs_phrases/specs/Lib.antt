pub mod Fronts
pub mod Ahead
pub mod Uses
pub mod Slots
pub mod Items
