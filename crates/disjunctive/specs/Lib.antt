-- The definitions that the contracts of this crate cite.
pub mod Disjoint
pub mod Gathering
pub mod StationCuts
pub mod Lawfulness
pub mod Gathered
