-- What the contracts of `separating` cite.
pub mod Rows
pub mod Laying
pub mod Turns
