-- What the contracts of `rewriting` cite.
pub mod Rewritten
