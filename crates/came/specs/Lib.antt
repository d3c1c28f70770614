-- What the contracts of `came` cite.
pub mod Came
