-- What the contracts of `beginning` cite.
pub mod Beginning
