-- Lemmas of the slip reader.
pub mod Results
pub mod Steps
pub mod Spelling
pub mod Entered
pub mod Standing
pub mod Cases
pub mod Walk
pub mod Telling
pub mod Law
pub mod Bounded
