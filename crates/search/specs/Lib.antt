-- What the contracts of a search cite.
pub mod Outcomes
pub mod Entered
pub mod Counting
pub mod Choosing
pub mod Deciding
pub mod Paths
pub mod Looks
pub mod Promise
