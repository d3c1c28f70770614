-- What the contracts of `showing` cite.
pub mod Dues
pub mod Shows
