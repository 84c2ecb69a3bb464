-- What the contracts of reports cite.
pub mod Planning
pub mod Texts
