-- What the contracts of `counting` cite.
pub mod OpenedWith
pub mod Totals
pub mod Held
pub mod Tables
