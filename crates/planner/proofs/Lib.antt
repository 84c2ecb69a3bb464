-- Lemmas of the planner.
pub mod Narrowed
pub mod Reading
