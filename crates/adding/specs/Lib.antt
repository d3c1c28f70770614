-- What the contracts of `adding` cite.
pub mod Add
