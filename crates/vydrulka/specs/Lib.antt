-- What the contracts of `vydrulka` cite.
pub mod Rooms
