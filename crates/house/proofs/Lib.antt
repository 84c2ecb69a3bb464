-- Lemmas of the house.
pub mod Working
