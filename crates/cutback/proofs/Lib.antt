pub mod Laws
pub mod Sums
