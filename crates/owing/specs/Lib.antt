-- What the contracts of `owing` cite.
pub mod Scan
