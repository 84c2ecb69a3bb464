-- What the contracts of a text's reading cite.
pub mod Bytes
pub mod Splitting
pub mod Numbers
pub mod Spaced
