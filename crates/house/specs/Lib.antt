-- What the contracts of the house cite.
pub mod Piles
pub mod Hall
