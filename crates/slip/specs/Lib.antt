-- What the contracts of the slip reader cite.
pub mod Format
pub mod Faults
pub mod Fields
pub mod Adding
pub mod Reading
pub mod Texts
pub mod Faulty
pub mod Laws
