-- What the contracts of calls cite.
pub mod Stages
pub mod Ledgers
pub mod Promise
pub mod Planners
pub mod Carrying
