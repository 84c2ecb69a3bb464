-- Lemmas on lines and calls.
pub mod Wording
pub mod Law
pub mod Buffering
