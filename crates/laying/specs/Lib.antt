-- What the contracts of `laying` cite.
pub mod Lays
