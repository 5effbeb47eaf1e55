pub mod Asked
pub mod Typed
pub mod Overrides
pub mod Lots
pub mod Groups
