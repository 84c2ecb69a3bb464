-- What the contracts of Drying cite.
pub mod Drying
pub mod Links
