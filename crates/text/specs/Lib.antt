pub mod Nibble
pub mod Words
pub mod Number
pub mod Hex
pub mod Put
pub mod Lines
