-- The lemmas of this crate.
pub mod Running
pub mod Gathering
pub mod Opening
