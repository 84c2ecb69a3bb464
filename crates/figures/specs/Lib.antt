-- The worked figures.
pub mod Figures
