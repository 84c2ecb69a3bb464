-- Lemmas of the search.
pub mod Boxes
pub mod Counts
pub mod Nearest
pub mod Halving
pub mod Placing
pub mod Standing
pub mod Looking
pub mod Rows
pub mod Depth
pub mod Promised
