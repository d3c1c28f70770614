-- What the contracts of `closing` cite.
pub mod Close
