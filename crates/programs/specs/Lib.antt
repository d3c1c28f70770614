-- What the contracts of `programs` cite.
pub mod Hand
pub mod Turns
pub mod Going
