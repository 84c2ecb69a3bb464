-- What the contract of the call for C cites.
pub mod Buffers
pub mod Answers
