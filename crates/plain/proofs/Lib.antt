pub mod Left
pub mod Loops
