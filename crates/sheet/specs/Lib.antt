-- What the contracts of the sheet cite.
pub mod Limits
pub mod Refusals
pub mod Entries
pub mod Sound
pub mod Sheets
pub mod Entering
