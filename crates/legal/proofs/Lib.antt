pub mod Passing
pub mod Limits
pub mod Zero
