-- What the contracts of `taking` and `sampling` cite.
pub mod Sample
