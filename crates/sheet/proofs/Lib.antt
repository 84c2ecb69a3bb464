-- Lemmas of the sheet.
pub mod Linking
pub mod Soundness
pub mod Accepting
