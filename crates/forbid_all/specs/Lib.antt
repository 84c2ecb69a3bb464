-- What the contracts of ForbidAll cite.
pub mod ForbidAll
pub mod Single
