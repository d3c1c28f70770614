-- What the contracts of `starting` cite.
pub mod Starting
