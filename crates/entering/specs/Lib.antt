-- What the contracts of `entering` cite.
pub mod Comparing
pub mod Entries
