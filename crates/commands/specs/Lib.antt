-- What the contracts of the lines of plancalls cite.
pub mod Words
pub mod Commands
pub mod Laws
pub mod Buffers
pub mod Replies
pub mod Responding
