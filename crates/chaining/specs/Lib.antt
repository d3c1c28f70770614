-- What the contracts of `chaining` cite.
pub mod Chains
