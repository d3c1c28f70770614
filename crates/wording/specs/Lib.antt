-- What the contracts of `wording` cite.
pub mod Refusals
pub mod Accepted
pub mod Recorded
