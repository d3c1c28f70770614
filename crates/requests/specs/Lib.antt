-- What the contracts of `requests` cite.
pub mod Calls
