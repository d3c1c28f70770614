-- What the contracts of `popping` cite.
pub mod Waits
