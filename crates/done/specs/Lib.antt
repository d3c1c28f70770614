-- What the contracts of `done` cite.
pub mod Done
