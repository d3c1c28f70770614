-- What the contracts of `central` cite.
pub mod Central
pub mod Folded
pub mod Progressing
