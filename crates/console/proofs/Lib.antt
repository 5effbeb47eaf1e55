pub mod Opening
pub mod Answering
pub mod Counting
pub mod Filing
pub mod Fitting
pub mod Rounds
