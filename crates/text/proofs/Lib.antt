-- Lemmas on text.
pub mod Splits
pub mod Digits
pub mod Decimals
pub mod Spacing
pub mod Spelling
