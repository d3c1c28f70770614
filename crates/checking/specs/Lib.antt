-- What the contracts of `checking` cite.
pub mod Masked
pub mod Slotted
