pub mod Cases
pub mod Cutbacks
pub mod Overrides
pub mod Lots
pub mod Orders
pub mod Quiet
