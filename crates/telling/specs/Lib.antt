-- What the contracts of `telling` and `asking` cite.
pub mod Ask
