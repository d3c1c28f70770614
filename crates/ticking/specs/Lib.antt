-- What the contract of `ticking` cites.
pub mod Tick
