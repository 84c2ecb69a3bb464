-- Lemmas of the call for C.
pub mod Encoding
pub mod Fitting
