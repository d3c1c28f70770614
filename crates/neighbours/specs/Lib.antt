-- What the contracts of `neighbours` cite.
pub mod Steps
