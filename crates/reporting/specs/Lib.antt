-- What the contracts of `reporting` cite.
pub mod Report
