-- What the contracts of the planner cite.
pub mod States
pub mod Calls
pub mod Keeping
