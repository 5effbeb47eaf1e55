pub mod OneCall
pub mod Counted
pub mod Quiet
