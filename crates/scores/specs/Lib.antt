-- What the contracts of `scores` cite.
pub mod Scored
pub mod Owned
pub mod Tallies
pub mod Choice
