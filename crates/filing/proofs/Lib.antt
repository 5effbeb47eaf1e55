pub mod Marking
pub mod Bidder
pub mod Numbers
