-- What the contracts of `opening` cite.
pub mod Opening
