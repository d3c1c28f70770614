-- What the contracts of `seeing` cite.
pub mod Seeing
