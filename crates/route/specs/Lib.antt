-- What the contracts of Route cite.
pub mod Route
pub mod Links
