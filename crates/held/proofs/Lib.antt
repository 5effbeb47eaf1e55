pub mod Signed
pub mod Found
