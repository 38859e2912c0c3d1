pub mod AheadRead
pub mod Read
pub mod NamesRead
pub mod SlotsRead
pub mod TypesRead
