pub mod Typing
pub mod Overrides
pub mod LotText
pub mod Grouping
