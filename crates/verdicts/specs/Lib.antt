-- What the contract of `verdicts` cites.
pub mod Verdicts
