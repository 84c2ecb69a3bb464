-- Lemmas on windows, cuts and rules.
pub mod Bounding
pub mod Tightest
pub mod Setting
