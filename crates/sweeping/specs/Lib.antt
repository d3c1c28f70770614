-- What the contracts of `sweeping` cite.
pub mod Passes
