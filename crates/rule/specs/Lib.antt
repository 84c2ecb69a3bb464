-- What the contracts of rules cite.
pub mod Windows
pub mod Cuts
pub mod Laws
pub mod Bounds
pub mod Tightest
pub mod Rounds
pub mod Forming
pub mod Piling
pub mod Repeating
pub mod Onward
