-- Lemmas on lists of calls.
pub mod Owing
pub mod Keeping
