-- What the contracts of `tallying` cite.
pub mod Tables
