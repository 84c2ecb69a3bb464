-- Lemmas of reports.
pub mod Planned
