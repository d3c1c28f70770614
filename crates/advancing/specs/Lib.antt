-- What the contracts of `advancing` cite.
pub mod Advance
