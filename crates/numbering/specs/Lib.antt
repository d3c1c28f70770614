-- What the contracts of `numbering` cite.
pub mod Orders
