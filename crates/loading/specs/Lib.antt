-- Loading a rule file: what the contracts of `loading` cite.
pub mod Load
pub mod Begin
