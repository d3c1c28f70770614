-- What the contracts of `scanning` cite.
pub mod OnePass
