-- What the contracts of `storing` cite.
pub mod Stores
