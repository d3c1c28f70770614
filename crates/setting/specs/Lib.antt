-- What the contracts of `setting` cite.
pub mod Setting
