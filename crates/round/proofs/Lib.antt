pub mod Bids
pub mod Same
pub mod Whole
