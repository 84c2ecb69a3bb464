-- The lemmas of this crate.
pub mod Shuffles
pub mod Intervals
pub mod EdgesFigures
pub mod EdgesExact
pub mod NotFirstExact
pub mod Rewriting
pub mod Passes
pub mod EdgesTurns
pub mod NotFirstTurns
pub mod Scattering
pub mod PairsTurns
pub mod Reversing
