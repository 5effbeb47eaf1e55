pub mod Words
pub mod Block
pub mod Sum
